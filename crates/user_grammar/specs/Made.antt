-- The portions of a file, as functions inside the crate see them.
use Rattle.std.specs.Prelude.{List, map}
use Rattle.outline_reader.specs.Plain.{PlainPortion, plain_portion}
use Rattle.outline_reader.specs.Views.{portion_view}
use Rattle.outline_reader.specs.declared.parts.Portion.{Portion}

-- the portions with plain tokens
abbrev pub plains : List Portion → List PlainPortion
plains portions = map (λ portion. plain_portion (portion_view portion)) portions
