-- The lines of a source. To be held against 'Tokens' of docs/notation.md.
use Rattle.std.specs.Prelude.{ℕ, zero, suc, ◌-◌, ◌==◌, if◌then◌else◌, unwrap_or, slice_get, slice_index, take, length, List, []}
use Rattle.std.specs.List.{slice_split}

-- the bytes without this one at their end, where it stands there
abbrev pub without_last : List ℕ → ℕ → List ℕ
without_last bytes last = if slice_index bytes (length bytes - 1) == last then take (length bytes - 1) bytes else bytes

-- The line with this number, counted from 1: what stands between two line feeds, without the carriage return at its end.
-- It is empty for the number 0 and past the last line.
abbrev pub source_line : List ℕ → ℕ → List ℕ
source_line source zero = []
source_line source (suc before) = without_last (unwrap_or (slice_get (slice_split (λ b. b == 10) source) before) []) 13
