-- A token where there is none.
use Rattle.std.proofs.Common.{ℕ, ◌≤◌, [], length, arith}
use Rattle.std.proofs.lemmas.List.{length-map}
use Rattle.form_cells.specs.Cells.{tokens_of}
use Rattle.form_cells.specs.View.{token}
use Rattle.form_cells.specs.declared.sheet.Sheet.{Sheet}
use Rattle.proof_lexer.specs.declared.token.Kind.TheVariants as kinds
use Rattle.proof_lexer.specs.declared.token.Token as of_tokens

abbrev pub no_token : of_tokens.Token
no_token = record { kind = kinds.Word; text = record { ref_ptr = (0, 0); now = [] }; span = record { from = 0; to = 0 }; line = 0 }

-- a range that lies in the tokens lies in what is seen of them
pub seen : (sheet : Sheet) (to : ℕ) → to ≤ length sheet.tokens.now → to ≤ length (tokens_of sheet)
seen sheet to h = omega (arith, length-map sheet.tokens.now token)
