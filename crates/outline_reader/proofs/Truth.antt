-- True and false.
use Rattle.std.proofs.Common.{◌≡◌, ◌⊎◌, inl, inr, Bool, true, false, not, if◌then◌else◌, ◌||◌, ◌&&◌, refl, sym, ◌∙◌}

pub and_left : (a b : Bool) → (a && b) ≡ true → a ≡ true
and_left true b h = refl
and_left false b h = h

pub and_right : (a b : Bool) → (a && b) ≡ true → b ≡ true
and_right true b h = h
and_right false b h = absurd (let no : false ≡ true = h in cc)

pub and_both : (a b : Bool) → a ≡ true → b ≡ true → (a && b) ≡ true
and_both true b first second = second
and_both false b first second = first

pub or_left : (a b : Bool) → a ≡ true → (a || b) ≡ true
or_left true b h = refl
or_left false b h = absurd (let no : false ≡ true = h in cc)

pub or_right : (a b : Bool) → b ≡ true → (a || b) ≡ true
or_right true b h = refl
or_right false b h = h

pub either : (a b : Bool) → (a || b) ≡ true → (a ≡ true) ⊎ (b ≡ true)
either true b h = inl refl
either false b h = inr h

pub not_true : (a : Bool) → not a ≡ true → a ≡ false
not_true true h = absurd (let no : false ≡ true = h in cc)
not_true false h = refl

pub where_true : (a b : Bool) → (if a then b else true) ≡ true → a ≡ true → b ≡ true
where_true true b h is = h
where_true false b h is = absurd (let no : false ≡ true = is in cc)

pub true_not_false : {A : Type 0} (b : Bool) → b ≡ true → b ≡ false → A
true_not_false b is is_not = absurd (let never : true ≡ false = sym is ∙ is_not in cc)
