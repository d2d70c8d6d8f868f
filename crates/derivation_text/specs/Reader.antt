-- What functions inside the crate say of the lines of a text. No public clause cites it but for the last.
use Rattle.std.specs.Prelude.{ℕ, List, []}
use Rattle.sy_base.specs.Tokens.{PlainToken}
use Rattle.rule_schemes.specs.Rules.{Theory}
use Rattle.rule_schemes.specs.Reading.{Token}
use Rattle.derivation_text.specs.Contents.{last_of}
use Rattle.derivation_text.specs.Ending.{HasNoLast}
use Rattle.derivation_text.specs.Found.{HasNoNamedTree}
use Rattle.derivation_text.specs.Lines.{text_lines}
use Rattle.derivation_text.specs.Valid.{Around, Contents, nothing_around, NamesTree, IsLast, AreValid, IsText}
use Rattle.derivation_text.specs.declared.derivs.Named.{Named}
use Rattle.derivation_text.specs.declared.reader.Seen.{Seen}
use Rattle.derivation_text.specs.declared.reader.Seen.TheVariants.{Wrong, Tree, End}

-- what a line is, after lines with these names
abbrev pub IsSeen : Theory → List Named → List Token → Seen → Type 0
IsSeen th known ts Wrong = HasNoNamedTree th known ts × HasNoLast known ts
IsSeen th known ts (Tree one) = NamesTree th nothing_around known ts one
IsSeen th known ts (End e) = HasNoNamedTree th known ts × IsLast known ts (last_of e)

abbrev pub HasNoContents : Theory → List PlainToken → Type 0
HasNoContents th ts = (c : Contents) → AreValid th nothing_around [] (text_lines ts) c → ⊥

-- the source is no valid text
abbrev pub HasNoText : Theory → (source : List ℕ) → Type 0
HasNoText th source = (around : Around) (c : Contents) → IsText th source around c → ⊥
