-- Tokens written one after another.
use Rattle.std.proofs.Common.{◌≡◌, ℕ, Bool, true, List, [], ◌∷◌, ◌++◌, refl, ap, sym, ◌∙◌, append_assoc}
use Rattle.std.proofs.lemmas.List.{append-nil}
use Rattle.rule_schemes.specs.Printing.{spaced, is_opening, text_of}
use Rattle.form_printing.specs.Page.{joined_after, written}
use Rattle.form_printing.specs.declared.page.Page.{Page}

pub spaced_append : (j : Bool) (xs ys : List (List ℕ)) → spaced j (xs ++ ys) ≡ spaced j xs ++ spaced (joined_after j xs) ys
spaced_append j [] ys = refl
spaced_append j (x ∷ xs) ys = rw (spaced_append (is_opening x) xs ys) (simp append_assoc)

pub joined_append : (j : Bool) (xs ys : List (List ℕ)) → joined_after j (xs ++ ys) ≡ joined_after (joined_after j xs) ys
joined_append j [] ys = refl
joined_append j (x ∷ xs) ys = joined_append (is_opening x) xs ys

-- two pieces one after another are one piece
pub written_twice : (p : Page) (xs ys : List (List ℕ)) → written (written p xs) ys ≡ written p (xs ++ ys)
unfolding written
written_twice p xs ys = simp (spaced_append, joined_append, append_assoc)

pub written_nothing : (p : Page) → written p [] ≡ p
unfolding written
written_nothing p = simp append-nil

-- a piece is written of what is to be written
pub written_step : (p q r : Page) (xs ys zs : List (List ℕ)) → q ≡ written p xs → written p zs ≡ r → zs ≡ xs ++ ys → written q ys ≡ r
written_step p q r xs ys zs e h split = (λ k. written (e k) ys) ∙ (written_twice p xs ys ∙ (ap (written p) (sym split) ∙ h))

-- nothing is left to be written
pub written_whole : (p r : Page) (zs : List (List ℕ)) → written p zs ≡ r → zs ≡ [] → p ≡ r
written_whole p r zs h none = sym (written_nothing p) ∙ (ap (written p) (sym none) ∙ h)

-- two pieces, one after another
pub written_pair : (p q r : Page) (xs ys : List (List ℕ)) → q ≡ written p xs → r ≡ written q ys → r ≡ written p (xs ++ ys)
written_pair p q r xs ys e h = h ∙ ((λ k. written (e k) ys) ∙ written_twice p xs ys)

-- the text of a page that began empty
pub page_text : (p q : Page) (ts : List (List ℕ)) → q ≡ written p ts → p.text ≡ [] → p.joined ≡ true → q.text ≡ text_of ts
unfolding written
page_text p q ts e none first = (λ k. (e k).text) ∙ (λ k. none k ++ spaced (first k) ts)
