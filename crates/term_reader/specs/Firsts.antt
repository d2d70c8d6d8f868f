-- The first two things that have a property in an order, or fewer where there are fewer.
use Rattle.std.specs.Prelude.{◌≡◌, ◌≢◌, ◌⊎◌, ℕ, List, [], ◌∷◌}
use Rattle.scheme_terms.specs.SchemeTree.{SchemeTree, Parts, no_parts, part}
use Rattle.term_reader.specs.declared.firsts.Firsts.{Firsts}
use Rattle.term_reader.specs.declared.firsts.Firsts.TheVariants.{Nothing, One, Two}

-- what is kept, as a list of what it stands for
abbrev pub listed : {A B : Type 0} → (A → B) → Firsts A → List B
listed f Nothing = []
listed f (One a) = f a ∷ []
listed f (Two a b) = f a ∷ f b ∷ []

-- it has the property at this place, and all else has it at later places
abbrev pub IsLeast : {K A : Type 0} → (K → K → Type 0) → (K → A → Type 0) → K → A → Type 0
IsLeast {K} {A} Before P k a = P k a × ((l : K) (x : A) → P l x → Before k l ⊎ ((k ≡ l) × (x ≡ a)))

-- in the order of the places where they have a property: none, the only one, or the first and the first that is another
abbrev pub AreFirst : {K A : Type 0} → (K → K → Type 0) → (K → A → Type 0) → List A → Type 0
AreFirst {K} {A} Before P [] = (k : K) (x : A) → P k x → ⊥
AreFirst {K} {A} Before P (a ∷ []) = ((k : K) × IsLeast Before P k a) × ((l : K) (x : A) → P l x → x ≡ a)
AreFirst {K} {A} Before P (a ∷ (b ∷ [])) =
    ((k : K) × IsLeast Before P k a) × ((m : K) × IsLeast Before (λ l x. P l x × (x ≢ a)) m b)
AreFirst Before P _ = ⊥

-- the first two of what stands in the first list or the second
abbrev pub AreJoined : {A : Type 0} → (first second joined : List A) → Type 0
AreJoined [] ys zs = zs ≡ ys
AreJoined (a ∷ []) [] zs = zs ≡ a ∷ []
AreJoined (a ∷ []) (b ∷ []) zs = ((a ≡ b) × (zs ≡ a ∷ [])) ⊎ ((a ≢ b) × (zs ≡ a ∷ b ∷ []))
AreJoined (a ∷ []) (b ∷ (c ∷ ys)) zs = ((a ≡ b) × (zs ≡ a ∷ c ∷ [])) ⊎ ((a ≢ b) × (zs ≡ a ∷ b ∷ []))
AreJoined (a ∷ (b ∷ xs)) ys zs = zs ≡ a ∷ b ∷ xs

-- the first two pairs of one in the first list and one in the second, where the first list counts first
abbrev pub paired : {A B C : Type 0} → (A → B → C) → List A → List B → List C
paired f [] ys = []
paired f (a ∷ xs) [] = []
paired f (a ∷ []) (c ∷ []) = f a c ∷ []
paired f (a ∷ (b ∷ xs)) (c ∷ []) = f a c ∷ f b c ∷ []
paired f (a ∷ xs) (c ∷ (d ∷ ys)) = f a c ∷ f a d ∷ []

abbrev pub IsFull : {A : Type 0} → Firsts A → Type 0
IsFull (Two a b) = Unit {0}
IsFull _ = ⊥

-- parts with one more at the end
abbrev pub with_last : ℕ → Parts → SchemeTree → Parts
with_last n no_parts s = part n s no_parts
with_last n (part m a xs) s = part m a (with_last n xs s)
