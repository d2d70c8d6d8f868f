-- What a page holds after tokens were written on it.
use Rattle.std.specs.Prelude.{ℕ, Bool, List, [], ◌∷◌, ◌++◌}
use Rattle.rule_schemes.specs.Printing.{spaced, is_opening}
use Rattle.form_printing.specs.declared.page.Page.{Page}

-- whether the next token is joined to the last one
abbrev pub joined_after : Bool → List (List ℕ) → Bool
joined_after joined [] = joined
joined_after joined (t ∷ ts) = joined_after (is_opening t) ts

-- the page with these tokens after what it had
unfoldable pub written : Page → List (List ℕ) → Page
written p ts = record { alloc = p.alloc; text = p.text ++ spaced p.joined ts; joined = joined_after p.joined ts }
