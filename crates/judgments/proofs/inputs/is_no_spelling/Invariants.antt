use Rattle.std.proofs.Common.{◌↔◌, drop}
use Rattle.judgments.specs.Spellings.{IsNoSpelling}
use Rattle.judgments.proofs.inputs.is_no_spelling.Given as goal

abbrev pub invariant-loop-cat : goal.invariant-loop-cat
invariant-loop-cat l = IsNoSpelling (drop l.cat-index l.cats) l.word ↔ IsNoSpelling l.cats l.word
