-- Letters: whether an access arrives at a cache of its chain. At the first cache it always does.
use Rattle.flow_net.specs.declared.letter.Letter.{Letter}
use Rattle.flow_net.specs.declared.letter.Letter.TheVariants.{Always, Never, Uncertain}
use Rattle.flow_net.specs.declared.letter.Class.{Class}
use Rattle.flow_net.specs.declared.letter.Class.TheVariants.{Hit, Miss}

-- The letter at the next cache, from the letter and the class at this one: an access goes on exactly
-- where it arrives here and misses. So it never arrives there where it never arrives here or hits,
-- and always where it always arrives here and misses; else it may.
abbrev pub next_letter : Letter → Class → Letter
next_letter Never class = Never
next_letter letter Hit = Never
next_letter Always Miss = Always
next_letter letter class = Uncertain
