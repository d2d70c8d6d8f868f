-- One turn of reading the tokens of a text.
use Rattle.std.proofs.Common.{◌≡◌, ℕ, ◌+◌, ◌<◌, List, [], ◌∷◌, ◌++◌, length, get_or, drop, Option, Some, None, Ok, Err, refl, sym, ◌∙◌, ap, append_assoc, length-append, drop-cons, add-one}
use Rattle.proof_lexer.specs.declared.token.Kind.TheVariants.{Word}
use Rattle.proof_lexer.specs.declared.token.Token.{Token}
use Rattle.outline_reader.specs.declared.fault.OutlineFault.TheVariants.{Unexpected}
use Rattle.outline_reader.specs.declared.limits.Counts.{Counts}
use Rattle.outline_reader.specs.declared.machine.Awaited.{Awaited}
use Rattle.outline_reader.specs.declared.machine.Seen.{Seen}
use Rattle.outline_reader.specs.declared.symbols.Role.{Role}
use Rattle.outline_reader.specs.Sorts.{sort_of}
use Rattle.outline_reader.specs.Derives.{begins_line, level}
use Rattle.outline_reader.specs.Limits.{counted}
use Rattle.outline_reader.specs.Machine.{take, missing}
use Rattle.outline_reader.specs.Reading.{Answer, read, with_roles, first_fault, at_end}

pub with_roles_append : (front roles : List Role) (answer : Answer) → with_roles front (with_roles roles answer) ≡ with_roles (front ++ roles) answer
with_roles_append front roles (Ok more) = ap (λ xs. Ok xs) (sym (append_assoc front roles more))
with_roles_append front roles (Err fault) = refl

abbrev pub seen_as : Option ℕ → Token → Seen
seen_as before token = record { sort = sort_of token; begins = begins_line before token.line }

pub read_token : (place : ℕ) (stack : List Awaited) (counts : Counts) (before : Option ℕ) (token : Token) (tokens : List Token) (role : Role) (new : List Awaited) →
    take stack (seen_as before token) ≡ Some (role, new) →
    read place stack counts before (token ∷ tokens) ≡ with_roles (role ∷ []) (read (place + 1) new (counted counts role token.line (level new)) (Some token.line) tokens)
unfolding read
read_token place stack counts before token tokens role new taken =
    ap (λ (found : Option (Role × List Awaited)). elim found [
      | None ↦ Err (first_fault counts token.line (Unexpected place))
      | Some taken ↦ with_roles (taken.0 ∷ []) (read (place + 1) taken.1 (counted counts taken.0 token.line (level taken.1)) (Some token.line) tokens)
    ]) taken

pub read_stuck : (place : ℕ) (stack : List Awaited) (counts : Counts) (before : Option ℕ) (token : Token) (tokens : List Token) →
    take stack (seen_as before token) ≡ None →
    read place stack counts before (token ∷ tokens) ≡ Err (first_fault counts token.line (Unexpected place))
unfolding read
read_stuck place stack counts before token tokens stuck =
    ap (λ (found : Option (Role × List Awaited)). elim found [
      | None ↦ Err (first_fault counts token.line (Unexpected place))
      | Some taken ↦ with_roles (taken.0 ∷ []) (read (place + 1) taken.1 (counted counts taken.0 token.line (level taken.1)) (Some token.line) tokens)
    ]) stuck

pub read_end : (place : ℕ) (stack : List Awaited) (counts : Counts) (before : Option ℕ) → read place stack counts before [] ≡ at_end counts before (missing stack)
unfolding read
read_end place stack counts before = refl

next_place : (roles : List Role) (role : Role) → length roles + 1 ≡ length (roles ++ role ∷ [])
next_place roles role = sym (length-append roles (role ∷ []))

-- a token that is taken
pub turn : (all : Answer) (roles : List Role) (stack new : List Awaited) (counts : Counts) (before : Option ℕ) (tokens : List Token) (i : ℕ) (d : Token) (role : Role) →
    i < length tokens → all ≡ with_roles roles (read (length roles) stack counts before (drop i tokens)) →
    take stack (seen_as before (get_or tokens i d)) ≡ Some (role, new) →
    all ≡ with_roles (roles ++ role ∷ []) (read (length (roles ++ role ∷ [])) new (counted counts role (get_or tokens i d).line (level new)) (Some (get_or tokens i d).line) (drop (i + 1) tokens))
turn all roles stack new counts before tokens i d role within so_far taken =
    let token = get_or tokens i d in
    let there : drop i tokens ≡ token ∷ drop (i + 1) tokens = rw (add-one, drop-cons tokens i d) refl in
    so_far
    ∙ ap (λ rest. with_roles roles (read (length roles) stack counts before rest)) there
    ∙ ap (with_roles roles) (read_token (length roles) stack counts before token (drop (i + 1) tokens) role new taken)
    ∙ with_roles_append roles (role ∷ []) _
    ∙ ap (λ place. with_roles (roles ++ role ∷ []) (read place new (counted counts role token.line (level new)) (Some token.line) (drop (i + 1) tokens))) (next_place roles role)

-- a token that is not
pub turn_stuck : (all : Answer) (roles : List Role) (stack : List Awaited) (counts : Counts) (before : Option ℕ) (tokens : List Token) (i : ℕ) (d : Token) →
    i < length tokens → all ≡ with_roles roles (read (length roles) stack counts before (drop i tokens)) →
    take stack (seen_as before (get_or tokens i d)) ≡ None →
    all ≡ Err (first_fault counts (get_or tokens i d).line (Unexpected (length roles)))
turn_stuck all roles stack counts before tokens i d within so_far stuck =
    let token = get_or tokens i d in
    let there : drop i tokens ≡ token ∷ drop (i + 1) tokens = rw (add-one, drop-cons tokens i d) refl in
    so_far
    ∙ ap (λ rest. with_roles roles (read (length roles) stack counts before rest)) there
    ∙ ap (with_roles roles) (read_stuck (length roles) stack counts before token (drop (i + 1) tokens) stuck)

-- the end of the text
pub turn_end : (all : Answer) (roles : List Role) (stack : List Awaited) (counts : Counts) (before : Option ℕ) (rest : List Token) →
    rest ≡ [] → all ≡ with_roles roles (read (length roles) stack counts before rest) →
    all ≡ with_roles roles (at_end counts before (missing stack))
turn_end all roles stack counts before rest ended so_far =
    so_far
    ∙ ap (λ rest. with_roles roles (read (length roles) stack counts before rest)) ended
    ∙ ap (with_roles roles) (read_end (length roles) stack counts before)

-- what `get_or` answers past the end of a list of tokens
abbrev pub no_token : Token
no_token = record { kind = Word; text = record { ref_ptr = (0, 0); now = [] }; span = record { from = 0; to = 0 }; line = 0 }
