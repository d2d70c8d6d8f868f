-- What it means that tokens have an outline, that none goes on at a token, that a text ends within a part, and that a limit is passed.
use Rattle.std.specs.Prelude.{◌≡◌, ◌≢◌, ◌⊎◌, ℕ, List, [], ◌∷◌, ◌++◌, length, map, Option, Some, None, Result, Ok, Err}
use Rattle.proof_lexer.specs.declared.token.Token.{Token}
use Rattle.outline_reader.specs.declared.fault.Part.{Part}
use Rattle.outline_reader.specs.declared.fault.Limit.{Limit}
use Rattle.outline_reader.specs.declared.fault.OutlineFault.{OutlineFault}
use Rattle.outline_reader.specs.declared.fault.OutlineFault.TheVariants.{Unexpected, MissingEnd, TooMany, NoMemory}
use Rattle.outline_reader.specs.declared.limits.Counts.{Counts}
use Rattle.outline_reader.specs.declared.machine.Awaited.{Awaited}
use Rattle.outline_reader.specs.declared.symbols.Role.{Role}
use Rattle.outline_reader.specs.Derives.{Mark, seen, Reaches, Derives, whole}
use Rattle.outline_reader.specs.Limits.{nothing_counted, counted}
use Rattle.outline_reader.specs.Machine.{missing}
use Rattle.outline_reader.specs.Views.{Piece}
use Rattle.outline_reader.specs.Portions.{portions}

-- ---- tokens and their marks

-- the tokens are a file, and are marked so
abbrev pub IsFile : List Token → List Mark → Type 0
IsFile tokens marks = Derives whole (seen tokens) marks

-- a file begins with the tokens
abbrev pub Begins : List Token → Type 0
Begins tokens = (more : List Token) × (marks : List Mark) × IsFile (tokens ++ more) marks

-- a file begins with the tokens, which are marked so, and behind them these symbols are to come
abbrev pub LeavesOff : List Token → List Mark → List Awaited → Type 0
LeavesOff tokens marks left = Reaches left whole (seen tokens) marks

-- no file goes on at the token that follows these
abbrev pub StopsAt : List Token → Token → Type 0
StopsAt front token = Begins front × (Begins (front ++ token ∷ []) → ⊥)

-- ---- limits

-- what was counted when the tokens that are marked so were read
abbrev pub counts_after : Counts → List Mark → List Token → Counts
counts_after counts [] tokens = counts
counts_after counts (mark ∷ marks) [] = counts
counts_after counts (mark ∷ marks) (token ∷ tokens) = counts_after (counted counts mark.role token.line mark.level) marks tokens

-- the limit that is passed first among the tokens, and the line at which
abbrev pub passed_in : List Mark → List Token → Option (ℕ × Limit)
passed_in marks tokens = (counts_after nothing_counted marks tokens).passed

-- no limit was passed, or at this line
abbrev pub NotBefore : Option (ℕ × Limit) → ℕ → Type 0
NotBefore None line = Unit {0}
NotBefore (Some passed) line = passed.0 ≡ line

abbrev pub last_line : Option ℕ → List Token → Option ℕ
last_line before [] = before
last_line before (token ∷ tokens) = last_line (Some token.line) tokens

-- ---- answers

-- the roles of the tokens of a file within the limits
abbrev pub IsOutlined : List Token → List Role → Type 0
IsOutlined tokens roles = (marks : List Mark) × IsFile tokens marks × (roles ≡ map (λ mark. mark.role) marks) × (passed_in marks tokens ≡ None)

-- the place of the first token at which no file goes on, where no limit was passed on a line before
abbrev pub IsUnexpected : List Token → ℕ → Type 0
IsUnexpected tokens place = (front : List Token) × (token : Token) × (rest : List Token) × (tokens ≡ front ++ token ∷ rest) × StopsAt front token × (place ≡ length front)
    × ((marks : List Mark) × (left : List Awaited) × LeavesOff front marks left × NotBefore (passed_in marks front) token.line)

-- the text begins a file and is none; its last line, and the part of the first symbol that must still come, where no limit was passed on a line before
abbrev pub IsMissingEnd : List Token → ℕ → Part → Type 0
IsMissingEnd tokens line part = Begins tokens × ((marks : List Mark) → IsFile tokens marks → ⊥) × (last_line None tokens ≡ Some line)
    × ((marks : List Mark) × (left : List Awaited) × LeavesOff tokens marks left × (missing left ≡ Some part) × NotBefore (passed_in marks tokens) line)

-- reading ends behind these tokens, and not by a fault of this line
abbrev pub EndsElsewhere : List Token → List Token → ℕ → Type 0
EndsElsewhere front [] line = ((marks : List Mark) × IsFile front marks) ⊎ (((marks : List Mark) → IsFile front marks → ⊥) × (last_line None front ≢ Some line))
EndsElsewhere front (token ∷ rest) line = StopsAt front token × (token.line ≢ line)

-- the line at which a limit is passed first, and which limit, where no fault of that line or of one before ends the reading
abbrev pub IsTooMany : List Token → ℕ → Limit → Type 0
IsTooMany tokens line limit = (front : List Token) × (rest : List Token) × (tokens ≡ front ++ rest) × EndsElsewhere front rest line
    × ((marks : List Mark) × (left : List Awaited) × LeavesOff front marks left × (passed_in marks front ≡ Some (line, limit)))

-- what is answered of the tokens
abbrev pub IsAnswer : List Token → Result (List Role) OutlineFault → Type 0
IsAnswer tokens (Ok roles) = IsOutlined tokens roles
IsAnswer tokens (Err (Unexpected place)) = IsUnexpected tokens place
IsAnswer tokens (Err (MissingEnd line part)) = IsMissingEnd tokens line part
IsAnswer tokens (Err (TooMany line limit)) = IsTooMany tokens line limit
IsAnswer tokens (Err NoMemory) = ⊥

-- ---- outlines

-- the portions are the outline of the tokens
abbrev pub IsOutline : List Token → List Piece → Type 0
IsOutline tokens pieces = (roles : List Role) × IsOutlined tokens roles × (pieces ≡ portions roles tokens)

-- the fault is that of the tokens: they have it, and no outline
abbrev pub IsFault : List Token → OutlineFault → Type 0
IsFault tokens fault = IsAnswer tokens (Err fault)

-- what a reader answers of the tokens, unless there is no memory: their one outline, or their one fault
abbrev pub Answers : {X : Type 0} → (X → List Piece) → Result X OutlineFault → List Token → Type 0
Answers view (Ok found) tokens = IsOutline tokens (view found) × ((pieces : List Piece) → IsOutline tokens pieces → pieces ≡ view found) × ((fault : OutlineFault) → IsFault tokens fault → ⊥)
Answers view (Err fault) tokens = fault ≢ NoMemory → IsFault tokens fault × ((other : OutlineFault) → IsFault tokens other → other ≡ fault) × ((pieces : List Piece) → IsOutline tokens pieces → ⊥)
