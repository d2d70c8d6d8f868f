-- Parts that match are as many as the arguments.
use Rattle.std.proofs.Common.{◌≡◌, ℕ, suc, List, [], ◌∷◌, length, refl, ap}
use Rattle.binding_terms.specs.View.{args_tree}
use Rattle.binding_terms.specs.declared.term.Arg.{Arg}
use Rattle.scheme_terms.specs.Forms.{Instance}
use Rattle.scheme_terms.specs.View.{scheme_parts}
use Rattle.scheme_terms.specs.declared.scheme.SArg.{SArg}
use Rattle.rule_schemes.specs.Statement.{StatementInput}
use Rattle.derivation_check.specs.Fitting.{PartsMatch}

pub parts_long : (inputs : List StatementInput) (inst : Instance) (n : ℕ) (xs : List SArg) (ys : List Arg) → PartsMatch inputs inst n (scheme_parts xs) (args_tree ys) → length xs ≡ length ys
parts_long inputs inst n [] [] h = refl
parts_long inputs inst n [] (y ∷ ys) h = absurd h
parts_long inputs inst n (x ∷ xs) [] h = absurd h
parts_long inputs inst n (x ∷ xs) (y ∷ ys) h = ap suc (parts_long inputs inst n xs ys h.1)
