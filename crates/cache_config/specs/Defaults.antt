-- The profile of a text without keys.
use Rattle.toml.specs.Data.{no_members}
use Rattle.cache_config.specs.Profiles.{ReadsAs}
use Rattle.cache_config.specs.declared.profile.Profile.{Profile}

-- The plain profile: the defaults of the key table, no caches and no regions.
abbrev pub HasDefaults : Profile → Type 0
HasDefaults p = ReadsAs no_members p
