-- What reading the tokens of a text answers.
use Rattle.std.specs.Prelude.{◌≡◌, ◌≢◌, ℕ, ◌+◌, if◌then◌else◌, ◌==◌, List, [], ◌∷◌, ◌++◌, Option, Some, None, Result, Ok, Err}
use Rattle.proof_lexer.specs.declared.token.Token.{Token}
use Rattle.outline_reader.specs.declared.fault.Part.{Part}
use Rattle.outline_reader.specs.declared.fault.Limit.{Limit}
use Rattle.outline_reader.specs.declared.fault.OutlineFault.{OutlineFault}
use Rattle.outline_reader.specs.declared.fault.OutlineFault.TheVariants.{Unexpected, MissingEnd, TooMany, NoMemory}
use Rattle.outline_reader.specs.declared.limits.Counts.{Counts}
use Rattle.outline_reader.specs.declared.machine.Awaited.{Awaited}
use Rattle.outline_reader.specs.declared.symbols.Role.{Role}
use Rattle.outline_reader.specs.Sorts.{sort_of}
use Rattle.outline_reader.specs.Derives.{begins_line, level, whole}
use Rattle.outline_reader.specs.Limits.{nothing_counted, counted}
use Rattle.outline_reader.specs.Machine.{take, missing}

abbrev pub Answer : Type 0
Answer = Result (List Role) OutlineFault

-- the limit that was passed, but where that was at this line, the line's own fault
abbrev pub fault_after : Option (ℕ × Limit) → ℕ → OutlineFault → OutlineFault
fault_after None line fault = fault
fault_after (Some passed) line fault = if passed.0 == line then fault else TooMany passed.0 passed.1

abbrev pub first_fault : Counts → ℕ → OutlineFault → OutlineFault
first_fault counts line fault = fault_after counts.passed line fault

abbrev pub within_limits : Option (ℕ × Limit) → Answer
within_limits None = Ok []
within_limits (Some passed) = Err (TooMany passed.0 passed.1)

-- the answer at the end of the text, after a token on this line
abbrev pub at_end : Counts → Option ℕ → Option Part → Answer
at_end counts (Some line) (Some part) = Err (first_fault counts line (MissingEnd line part))
at_end counts (Some line) None = within_limits counts.passed
at_end counts None part = within_limits counts.passed

abbrev pub with_roles : List Role → Answer → Answer
with_roles front (Ok roles) = Ok (front ++ roles)
with_roles front (Err fault) = Err fault

-- reading on at a place of the text, with these symbols to come, what was counted, and the line of the token before
unfoldable pub read : ℕ → List Awaited → Counts → Option ℕ → List Token → Answer
read place awaited counts before [] = at_end counts before (missing awaited)
read place awaited counts before (token ∷ tokens) =
    elim (take awaited (record { sort = sort_of token; begins = begins_line before token.line })) [
      | None ↦ Err (first_fault counts token.line (Unexpected place))
      | Some taken ↦ with_roles (taken.0 ∷ []) (read (place + 1) taken.1 (counted counts taken.0 token.line (level taken.1)) (Some token.line) tokens)
    ]

-- what each token of a text is in its outline
abbrev pub roles : List Token → Answer
roles tokens = read 0 whole nothing_counted None tokens

-- what a reader answers, unless there is no memory
abbrev pub Gives : {X : Type 0} → (X → List Role) → Result X OutlineFault → Answer → Type 0
Gives view (Ok found) answer = answer ≡ Ok (view found)
Gives view (Err fault) answer = fault ≢ NoMemory → answer ≡ Err fault
