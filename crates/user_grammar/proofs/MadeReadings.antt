-- What a form stands for, step by step: the front of the tokens, where what they stand for is known to be there.
use Rattle.std.proofs.Common.{◌≡◌, Bool, true, false, IsTrue, ◌≤◌, ◌+◌, add-one, ◌<◌, map, length, take, drop, get_or, drop-cons, ℕ, zero, suc, List, [], ◌∷◌, ◌++◌, Option, None, Some, refl, ap, ◌∙◌, sym, subst, inl, inr, ◌==◌, slice_get, arith, ◌↔◌}
use Rattle.std.proofs.lemmas.List.{take_more, append-nil, append_assoc, map-append, take-append-drop, drop_all}
use Rattle.std.proofs.lemmas.Grind.{flat_map-append}
use Rattle.std.specs.List.{AllByRecursion, AllZip}
use Rattle.sy_base.specs.Tokens.{PlainToken}
use Rattle.binding_terms.specs.declared.grammar.Cat.{Cat}
use Rattle.binding_terms.specs.declared.grammar.CatId.{CatId}
use Rattle.binding_terms.specs.declared.grammar.Item.{Item}
use Rattle.binding_terms.specs.declared.grammar.Item.TheVariants.{Word, Slot, Binder}
use Rattle.binding_terms.specs.declared.grammar.Prod.{Prod}
use Rattle.rule_schemes.specs.Reading.{MayBeTerminal, IsCategoryWord}
use Rattle.user_grammar.specs.File.{WrittenCategory, categories, category_in}
use Rattle.user_grammar.specs.Names.{IsAmong, names, category_names, variable_names, IsNoSpelling, AllApart}
use Rattle.user_grammar.specs.Production.{IsMark, AreBrackets, no_brackets, brackets, AreWords, one_more, last_one, AreNumbers, AreItems, no_items, terminal, binder, slot, IsProduction, IsVariable}
use Rattle.user_grammar.specs.Grammar.{AreProductions, AreForms, no_forms, variable, production}
use Rattle.outline_reader.specs.Plain.{plain_portion}
use Rattle.outline_reader.specs.Views.{portion_view}
use Rattle.outline_reader.specs.declared.parts.Portion.{Portion}
use Rattle.user_grammar.specs.Made.{plains}
use Rattle.user_grammar.specs.MadeItems.{IsFirstVariable, IsBinderSpelling, AreBracketsFrom, IsNotOpened}
use Rattle.user_grammar.specs.declared.made_tokens.Meaning.TheVariants as meaning
use Rattle.user_grammar.specs.declared.made_tokens.Spot.{Spot}
use Rattle.user_grammar.specs.declared.made_tokens.Spot.TheVariants.{Outside, BeforeWord, BehindWord}
use Rattle.user_grammar.proofs.Spellings.{one_category, one_variable, not_both, no_category, no_variable, apart_left, apart_right}
use Rattle.binding_terms.proofs.Lists.{empty_within_one, zip_append}

-- ---- words

no_spelling_joined : (some others : List (List ℕ)) (word : List ℕ) → IsNoSpelling some word → IsNoSpelling others word → IsNoSpelling (some ++ others) word
no_spelling_joined [] others word none no_other = no_other
no_spelling_joined (name ∷ some) others word none no_other = (none.0, no_spelling_joined some others word none.1 no_other)

pub no_name : (cats : List Cat) (word : List ℕ) → IsNoSpelling (category_names cats) word → IsNoSpelling (variable_names cats) word → IsNoSpelling (names cats) word
no_name cats word none no_other = no_spelling_joined (category_names cats) (variable_names cats) word none no_other

-- ---- brackets

marks_differ : (token : PlainToken) → IsMark 44 token → IsMark 93 token → ⊥
marks_differ token comma closing = absurd (differ (sym comma.1 ∙ closing.1))
  where
    differ : ◌≡◌ {A = List ℕ} (44 ∷ []) (93 ∷ []) → ⊥
    differ same = cc

-- words and tokens from a spot on
abbrev pub Goes : (words : List (List ℕ)) (taken : List (List ℕ)) (P : List (List ℕ) → Type 0) → Type 0
Goes words taken P = (left : List (List ℕ)) × (words ≡ taken ++ left) × P left

pub opened : (words : List (List ℕ)) (token : PlainToken) (tokens rest : List PlainToken) → IsMark 91 token → AreBrackets words (token ∷ tokens) rest → IsNotOpened rest
    → (left : List (List ℕ)) × (words ≡ [] ++ left) × AreWords left tokens rest
opened words token tokens rest mark no_brackets shut = absurd (shut mark)
opened words token tokens rest mark (brackets is more) shut = (words, refl, more)

pub word_taken : (words : List (List ℕ)) (token : PlainToken) (tokens rest : List PlainToken) → AreWords words (token ∷ tokens) rest
    → (left : List (List ℕ)) × (words ≡ (token.text ∷ []) ++ left) × AreBracketsFrom BehindWord left tokens rest
word_taken words token tokens rest (one_more {words = left} kind mark more) = (left, refl, inl (mark, more))
word_taken words token tokens rest (last_one {words = left} kind mark more) = (left, refl, inr (mark, more))

pub closed : (words : List (List ℕ)) (token : PlainToken) (tokens rest : List PlainToken) → IsMark 93 token → AreBracketsFrom BehindWord words (token ∷ tokens) rest
    → (left : List (List ℕ)) × (words ≡ [] ++ left) × AreBrackets left tokens rest
closed words token tokens rest mark (inl comma) = absurd (marks_differ token comma.0 mark)
closed words token tokens rest mark (inr closing) = (words, refl, closing.1)

pub not_closed : (words : List (List ℕ)) (token : PlainToken) (tokens rest : List PlainToken) → (IsMark 93 token → ⊥) → AreBracketsFrom BehindWord words (token ∷ tokens) rest
    → (left : List (List ℕ)) × (words ≡ [] ++ left) × AreWords left tokens rest
not_closed words token tokens rest not (inl comma) = (words, refl, comma.1)
not_closed words token tokens rest not (inr closing) = absurd (not closing.0)

-- at the end of the tokens nothing is left
pub ended : (words : List (List ℕ)) (rest : List PlainToken) → AreBrackets words [] rest → (words ≡ []) × (rest ≡ [])
ended words rest no_brackets = (refl, refl)

-- ---- items

word_opens_nothing : (token : PlainToken) → token.kind ≡ 0 → IsMark 91 token → ⊥
word_opens_nothing token kind mark = absurd (let same : 0 ≡ 2 = sym kind ∙ mark.0 in let never : ⊥ = omega (arith, same) in never)

terminal_opens_nothing : (token : PlainToken) → MayBeTerminal token.kind token.text → IsMark 91 token → ⊥
terminal_opens_nothing token (inl kind) mark = word_opens_nothing token kind mark
terminal_opens_nothing token (inr (inl symbol)) mark = let same : 1 ≡ 2 = sym symbol.0 ∙ mark.0 in absurd (let never : ⊥ = omega (arith, same) in never)
terminal_opens_nothing token (inr (inr (inl single))) mark = single.3 mark.1
terminal_opens_nothing token (inr (inr (inr quoted))) mark = let same : 4 ≡ 2 = sym quoted ∙ mark.0 in absurd (let never : ⊥ = omega (arith, same) in never)

-- no item begins with an opening bracket
pub items_not_opened : {cats : List Cat} {listed own words : List (List ℕ)} {tokens : List PlainToken} {items : List Item} → AreItems cats listed own tokens items words → IsNotOpened tokens
items_not_opened no_items = tt
items_not_opened (terminal {token = token} is plain more) = terminal_opens_nothing token is.may_be
items_not_opened (binder {token = token} kind spells more) = word_opens_nothing token kind
items_not_opened (slot {token = token} kind spells bound numbers more) = word_opens_nothing token kind

-- what a slot at the front is followed by
pub record SlotStands (cats : List Cat) (listed own : List (List ℕ)) (c : CatId) (rest : List PlainToken) (items : List Item) (words : List (List ℕ)) : Type 0 where
  pub bound : List (List ℕ)
  pub binds : List ℕ
  pub behind : List PlainToken
  pub left : List Item
  pub same : items ≡ Slot c binds ∷ left
  pub are_brackets : AreBrackets bound rest behind
  pub shut : IsNotOpened behind
  pub numbers : AreNumbers own bound binds
  pub more : AreItems cats listed own behind left words

pub record BinderStands (cats : List Cat) (listed own : List (List ℕ)) (c : CatId) (token : PlainToken) (rest : List PlainToken) (items : List Item) (words : List (List ℕ)) : Type 0 where
  pub left : List Item
  pub left_words : List (List ℕ)
  pub same : items ≡ Binder c ∷ left
  pub same_words : words ≡ token.text ∷ left_words
  pub more : AreItems cats listed own rest left left_words

pub record TerminalStands (cats : List Cat) (listed own : List (List ℕ)) (token : PlainToken) (rest : List PlainToken) (items : List Item) (words : List (List ℕ)) : Type 0 where
  pub left : List Item
  pub same : items ≡ Word token.text (token.kind == 4) ∷ left
  pub more : AreItems cats listed own rest left words

pub slot_stands : (cats : List Cat) (listed own : List (List ℕ)) (c : CatId) (token : PlainToken) (rest : List PlainToken) (items : List Item) (words : List (List ℕ)) → AllApart (names cats)
    → (token.kind ≡ 0) × IsCategoryWord cats c.0 token.text → AreItems cats listed own (token ∷ rest) items words → SlotStands cats listed own c rest items words
slot_stands cats listed own c token rest items words apart means (terminal is plain more) = absurd (no_category cats c.0 token.text (plain means.0) means.1)
slot_stands cats listed own c token rest items words apart means (binder {c = d} kind spells more) = absurd (not_both cats c.0 d.0 token.text apart means.1 spells)
slot_stands cats listed own c token rest items words apart means (slot {rest = behind} {c = d} {bound = bound} {binds = binds} {items = left} kind spells are_brackets numbers more) =
    let cat = one_category cats d.0 c.0 token.text (apart_left (category_names cats) (variable_names cats) apart) spells means.1 in
    record {
      bound = bound;
      binds = binds;
      behind = behind;
      left = left;
      same = ap (λ (n : ℕ). Slot (record { 0 = n }) binds ∷ left) cat;
      are_brackets = are_brackets;
      shut = items_not_opened more;
      numbers = numbers;
      more = more;
    }

pub binder_stands : (cats : List Cat) (listed own : List (List ℕ)) (c : CatId) (token : PlainToken) (rest : List PlainToken) (items : List Item) (words : List (List ℕ)) → AllApart (names cats)
    → (token.kind ≡ 0) × IsBinderSpelling cats c.0 token.text → AreItems cats listed own (token ∷ rest) items words → BinderStands cats listed own c token rest items words
binder_stands cats listed own c token rest items words apart means (terminal is plain more) = absurd (no_variable cats c.0 token.text (plain means.0) means.1)
binder_stands cats listed own c token rest items words apart means (slot {c = d} kind spells are_brackets numbers more) = absurd (not_both cats d.0 c.0 token.text apart spells means.1)
binder_stands cats listed own c token rest items words apart means (binder {c = d} {items = left} {words = left_words} kind spells more) =
    let cat = one_variable cats d.0 c.0 token.text (apart_right (category_names cats) (variable_names cats) apart) spells means.1 in
    record { left = left; left_words = left_words; same = ap (λ (n : ℕ). Binder (record { 0 = n }) ∷ left) cat; same_words = refl; more = more }

pub terminal_stands : (cats : List Cat) (listed own : List (List ℕ)) (token : PlainToken) (rest : List PlainToken) (items : List Item) (words : List (List ℕ))
    → (token.kind ≡ 0 → IsNoSpelling (names cats) token.text) → AreItems cats listed own (token ∷ rest) items words → TerminalStands cats listed own token rest items words
terminal_stands cats listed own token rest items words means (terminal {items = left} is plain more) = record { left = left; same = refl; more = more }
terminal_stands cats listed own token rest items words means (binder {c = d} kind spells more) = absurd (no_variable cats d.0 token.text (means kind) spells)
terminal_stands cats listed own token rest items words means (slot {c = d} kind spells are_brackets numbers more) = absurd (no_category cats d.0 token.text (means kind) spells)

pub no_more : {cats : List Cat} {listed own words : List (List ℕ)} {items : List Item} → AreItems cats listed own [] items words → (items ≡ []) × (words ≡ [])
no_more no_items = (refl, refl)

-- ---- numbers

pub number_next : (own : List (List ℕ)) (word : List ℕ) (words : List (List ℕ)) (binds : List ℕ) → AreNumbers own (word ∷ words) binds
    → (n : ℕ) × (left : List ℕ) × (binds ≡ n ∷ left) × (slice_get own n ≡ Some word) × AreNumbers own words left
number_next own word words [] are = absurd are
number_next own word words (n ∷ left) are = (n, left, refl, are.0, are.1)

pub among_at : (texts : List (List ℕ)) (n : ℕ) (text : List ℕ) → slice_get texts n ≡ Some text → IsAmong texts text
among_at [] n text at = cc
among_at (one ∷ texts) zero text at = inl (let same : one ≡ text = cc in same)
among_at (one ∷ texts) (suc n) text at = inr (among_at texts n text at)

-- ---- forms

pub variable_form : (cats : List Cat) (listed : List (List ℕ)) (c : ℕ) (var : Option (List ℕ)) (form : List PlainToken) (forms : List (List PlainToken)) (prods : List Prod)
    → IsVariable (category_names cats) listed form → AreForms cats listed c var (form ∷ forms) prods → (left : Option (List ℕ)) × AreForms cats listed c left forms prods
variable_form cats listed c var form forms prods is (variable also more) = (None, more)
variable_form cats listed c var form forms prods is (production not made more) = absurd (not is)

pub production_form : (cats : List Cat) (listed : List (List ℕ)) (c : ℕ) (var : Option (List ℕ)) (form : List PlainToken) (forms : List (List PlainToken)) (prods : List Prod)
    → (IsVariable (category_names cats) listed form → ⊥) → AreForms cats listed c var (form ∷ forms) prods
    → (prod : Prod) × (left : List Prod) × (prods ≡ prod ∷ left) × IsProduction cats listed c form prod × AreForms cats listed c var forms left
production_form cats listed c var form forms prods not (variable is more) = absurd (not is)
production_form cats listed c var form forms prods not (production {prod = prod} {prods = left} nor made more) = (prod, left, refl, made, more)

pub no_form : (cats : List Cat) (listed : List (List ℕ)) (c : ℕ) (var : Option (List ℕ)) (prods : List Prod) → AreForms cats listed c var [] prods → prods ≡ []
no_form cats listed c var prods no_forms = refl

-- the first variable stands here
pub first_here : {X W : Type 0} (f : W → List PlainToken) (g : X → W) (texts listed : List (List ℕ)) (xs : List X) (i : ℕ) (d : X) (token : PlainToken) (name : List ℕ) → i < length xs
    → AllByRecursion (λ form. IsVariable texts listed form → ⊥) (map f (map g (take i xs))) → f (g (get_or xs i d)) ≡ token ∷ []
    → IsVariable texts listed (token ∷ []) → name ≡ token.text → IsFirstVariable texts listed (map f (map g xs)) (Some name)
first_here f g texts listed xs i d token name lt none here is named =
    let split : map f (map g xs) ≡ map f (map g (take i xs)) ++ (token ∷ []) ∷ map f (map g (drop (suc i) xs)) =
    ap (λ ys. map f (map g ys)) (sym (take-append-drop i xs)) ∙ ap (map f) (map-append g (take i xs) (drop i xs))
    ∙ map-append f (map g (take i xs)) (map g (drop i xs))
    ∙ ap (λ (zs : List (List PlainToken)). map f (map g (take i xs)) ++ zs)
    (ap (λ ys. map f (map g ys)) (drop-cons xs i d lt) ∙ ap (λ (form : List PlainToken). form ∷ map f (map g (drop (suc i) xs))) here) in
    (map f (map g (take i xs)), token, map f (map g (drop (suc i) xs)), split, none, is, named)

-- the front of the forms that are left
left_forms : {X W : Type 0} (f : W → List PlainToken) (g : X → W) (xs : List X) (i : ℕ) (d : X) → i < length xs
    → map f (map g (drop i xs)) ≡ f (g (get_or xs i d)) ∷ map f (map g (drop (i + 1) xs))
left_forms f g xs i d lt = ap (λ ys. map f (map g ys)) (drop-cons xs i d lt ∙ ap (λ (k : ℕ). get_or xs i d ∷ drop k xs) (sym (add-one i)))

pub left_variable : {X W : Type 0} (f : W → List PlainToken) (g : X → W) (xs : List X) (i : ℕ) (d : X) (cats : List Cat) (listed : List (List ℕ)) (c : ℕ) (var : Option (List ℕ)) (prods : List Prod)
    → i < length xs → IsVariable (category_names cats) listed (f (g (get_or xs i d))) → AreForms cats listed c var (map f (map g (drop i xs))) prods
    → (left : Option (List ℕ)) × AreForms cats listed c left (map f (map g (drop (i + 1) xs))) prods
left_variable f g xs i d cats listed c var prods lt is are =
    variable_form cats listed c var (f (g (get_or xs i d))) (map f (map g (drop (i + 1) xs))) prods is
    (subst (λ forms. AreForms cats listed c var forms prods) (left_forms f g xs i d lt) are)

pub left_production : {X W : Type 0} (f : W → List PlainToken) (g : X → W) (xs : List X) (i : ℕ) (d : X) (cats : List Cat) (listed : List (List ℕ)) (c : ℕ) (var : Option (List ℕ)) (prods : List Prod)
    → i < length xs → (IsVariable (category_names cats) listed (f (g (get_or xs i d))) → ⊥) → AreForms cats listed c var (map f (map g (drop i xs))) prods
    → (prod : Prod) × (left : List Prod) × (prods ≡ prod ∷ left) × IsProduction cats listed c (f (g (get_or xs i d))) prod
    × AreForms cats listed c var (map f (map g (drop (i + 1) xs))) left
left_production f g xs i d cats listed c var prods lt not are =
    production_form cats listed c var (f (g (get_or xs i d))) (map f (map g (drop (i + 1) xs))) prods not
    (subst (λ forms. AreForms cats listed c var forms prods) (left_forms f g xs i d lt) are)

-- ---- loops

-- the brackets end before a token
pub brackets_end : {X : Type 0} (f : X → PlainToken) (xs : List X) (i count : ℕ) (d : X) (spot : Spot) (made words : List (List ℕ)) (rest : List PlainToken) → i < length xs → count ≡ i
    → (left : List (List ℕ)) × (words ≡ made ++ left) × AreBracketsFrom spot left (map f (drop i xs)) rest
    → ((ws : List (List ℕ)) (ts r : List PlainToken) → AreBracketsFrom spot ws (f (get_or xs i d) ∷ ts) r → IsNotOpened r → (ws ≡ []) × (r ≡ f (get_or xs i d) ∷ ts))
    → IsNotOpened rest → (made ≡ words) × (map f (drop count xs) ≡ rest)
brackets_end f xs i count d spot made words rest lt same stands ends shut =
    let front : map f (drop i xs) ≡ f (get_or xs i d) ∷ map f (drop (suc i) xs) = ap (map f) (drop-cons xs i d lt) in
    let found = ends stands.0 (map f (drop (suc i) xs)) rest (subst (λ ts. AreBracketsFrom spot stands.0 ts rest) front stands.2) shut in
    (sym (stands.1 ∙ ap (λ (ws : List (List ℕ)). made ++ ws) found.0 ∙ append-nil made), ap (λ (k : ℕ). map f (drop k xs)) same ∙ front ∙ sym found.1)

some_token : {words : List (List ℕ)} {tokens rest : List PlainToken} → AreWords words tokens rest → tokens ≡ [] → ⊥
some_token (one_more kind mark more) same = cc
some_token (last_one kind mark more) same = cc

nothing_from : (spot : Spot) (left : List (List ℕ)) (rest : List PlainToken) → AreBracketsFrom spot left [] rest → (left ≡ []) × (rest ≡ [])
nothing_from Outside left rest are = ended left rest are
nothing_from BeforeWord left rest are = absurd (some_token are refl)
nothing_from BehindWord left rest are = absurd are

-- the brackets end with the tokens
pub brackets_over : {X : Type 0} (f : X → PlainToken) (xs : List X) (i count : ℕ) (spot : Spot) (made words : List (List ℕ)) (rest : List PlainToken) → length xs ≤ i → count ≡ i
    → (left : List (List ℕ)) × (words ≡ made ++ left) × AreBracketsFrom spot left (map f (drop i xs)) rest
    → (made ≡ words) × (map f (drop count xs) ≡ rest)
brackets_over f xs i count spot made words rest over same stands =
    let none : map f (drop i xs) ≡ [] = ap (map f) (drop_all i xs over) in
    let found = nothing_from spot stands.0 rest (subst (λ ts. AreBracketsFrom spot stands.0 ts rest) none stands.2) in
    (sym (stands.1 ∙ ap (λ (ws : List (List ℕ)). made ++ ws) found.0 ∙ append-nil made), ap (λ (k : ℕ). map f (drop k xs)) same ∙ none ∙ sym found.1)

-- one number more
pub numbers_more : {X : Type 0} (g : X → List ℕ) (own : List (List ℕ)) (xs : List X) (i : ℕ) (d : X) (all new binds : List ℕ) → i < length xs
    → (left : List ℕ) × AreNumbers own (map g (drop i xs)) left × (all ++ left ≡ binds)
    → ((n : ℕ) → slice_get own n ≡ Some (g (get_or xs i d)) → new ≡ all ++ n ∷ [])
    → (left : List ℕ) × AreNumbers own (map g (drop (i + 1) xs)) left × (new ++ left ≡ binds)
numbers_more g own xs i d all new binds lt stands pushed =
    let front : map g (drop i xs) ≡ g (get_or xs i d) ∷ map g (drop (i + 1) xs) =
    ap (map g) (drop-cons xs i d lt) ∙ ap (λ (k : ℕ). g (get_or xs i d) ∷ map g (drop k xs)) (sym (add-one i)) in
    let next = number_next own (g (get_or xs i d)) (map g (drop (i + 1) xs)) stands.0 (subst (λ ws. AreNumbers own ws stands.0) front stands.1) in
    (next.1, next.4, ap (λ ns. ns ++ next.1) (pushed next.0 next.3) ∙ append_assoc all (next.0 ∷ []) next.1 ∙ ap (λ ns. all ++ ns) (sym next.2) ∙ stands.2)

-- one word more
pub pushed_word : {X : Type 0} (g : X → List ℕ) (old new : List X) (x : X) (text : List ℕ) (words left : List (List ℕ)) → new ≡ old ++ x ∷ [] → g x ≡ text → words ≡ text ∷ left
    → map g new ++ left ≡ map g old ++ words
pushed_word g old new x text words left pushed is same =
    ap (λ xs. map g xs ++ left) pushed ∙ ap (λ ws. ws ++ left) (map-append g old (x ∷ [])) ∙ append_assoc (map g old) (g x ∷ []) left
    ∙ ap (λ (w : List ℕ). map g old ++ w ∷ left) is ∙ ap (λ ws. map g old ++ ws) (sym same)

-- the forms that are left, one further
pub forms_more : {X W : Type 0} (f : W → List PlainToken) (g : X → W) (xs : List X) (i : ℕ) (d : X) (cats : List Cat) (listed : List (List ℕ)) (c : ℕ) (old new all : List Prod)
    → i < length xs → (var : Option (List ℕ)) × (left : List Prod) × AreForms cats listed c var (map f (map g (drop i xs))) left × (old ++ left ≡ all)
    → ((var : Option (List ℕ)) (forms : List (List PlainToken)) (own : List Prod) → AreForms cats listed c var (f (g (get_or xs i d)) ∷ forms) own
    → (left_var : Option (List ℕ)) × (left : List Prod) × AreForms cats listed c left_var forms left × (new ++ left ≡ old ++ own))
    → (left_var : Option (List ℕ)) × (left : List Prod) × AreForms cats listed c left_var (map f (map g (drop (i + 1) xs))) left × (new ++ left ≡ all)
forms_more f g xs i d cats listed c old new all lt stands added =
    let next = added stands.0 (map f (map g (drop (i + 1) xs))) stands.1 (subst (λ forms. AreForms cats listed c stands.0 forms stands.1) (left_forms f g xs i d lt) stands.2) in
    (next.0, next.1, next.2, next.3 ∙ stands.3)

-- no forms are left
pub forms_over : {X W : Type 0} (f : W → List PlainToken) (g : X → W) (xs : List X) (i : ℕ) (cats : List Cat) (listed : List (List ℕ)) (c : ℕ) (made all : List Prod)
    → length xs ≤ i → (var : Option (List ℕ)) × (left : List Prod) × AreForms cats listed c var (map f (map g (drop i xs))) left × (made ++ left ≡ all) → made ≡ all
forms_over f g xs i cats listed c made all over stands =
    let none : map f (map g (drop i xs)) ≡ [] = ap (λ ys. map f (map g ys)) (drop_all i xs over) in
    let nothing = no_form cats listed c stands.0 stands.1 (subst (λ forms. AreForms cats listed c stands.0 forms stands.1) none stands.2) in
    sym (append-nil made) ∙ ap (λ (ps : List Prod). made ++ ps) (sym nothing) ∙ stands.3

-- the productions of one category more
pub category_more : (cats : List Cat) (listed : List (List ℕ)) (c : ℕ) (w : WrittenCategory) (written : List WrittenCategory) (vars : List (Option (List ℕ))) (own old new : List Prod)
    → AreProductions cats listed c (w ∷ written) vars own
    → ((var : Option (List ℕ)) (first : List Prod) → AreForms cats listed c var w.forms first → new ≡ old ++ first)
    → (left_vars : List (Option (List ℕ))) × (left : List Prod) × AreProductions cats listed (c + 1) written left_vars left × (new ++ left ≡ old ++ own)
category_more cats listed c w written [] own old new are added = absurd are
category_more cats listed c w written (var ∷ vars) own old new are added = (
  vars,
  are.1,
  subst (λ n. AreProductions cats listed n written vars are.1) (sym (add-one c)) are.4,
  ap (λ ps. ps ++ are.1) (added var are.0 are.3) ∙ append_assoc old are.0 are.1 ∙ ap (λ ps. old ++ ps) (sym are.2),
)

-- no words are left
pub words_over : {X : Type 0} (f : X → PlainToken) (xs : List X) (cats : List Cat) (listed own made words : List (List ℕ)) → length xs < 1
    → (items : List Item) × (left : List (List ℕ)) × AreItems cats listed own (map f xs) items left × (made ++ left ≡ words) → made ≡ words
words_over {X = X} f xs cats listed own made words lt stands =
    let nothing = no_more (subst (λ (ts : List X). AreItems cats listed own (map f ts) stands.0 stands.1) (empty_within_one xs lt) stands.2) in
    sym (append-nil made) ∙ ap (λ (ws : List (List ℕ)). made ++ ws) (sym nothing.1) ∙ stands.3

-- no items are left
pub items_over : {X : Type 0} (f : X → PlainToken) (xs : List X) (cats : List Cat) (listed own : List (List ℕ)) (made items : List Item) → length xs < 1
    → (left : List Item) × (words : List (List ℕ)) × AreItems cats listed own (map f xs) left words × (made ++ left ≡ items) → made ≡ items
items_over {X = X} f xs cats listed own made items lt stands =
    let nothing = no_more (subst (λ (ts : List X). AreItems cats listed own (map f ts) stands.0 stands.1) (empty_within_one xs lt) stands.2) in
    sym (append-nil made) ∙ ap (λ (is : List Item). made ++ is) (sym nothing.0) ∙ stands.3

-- a form that was found to be none is no variable
pub found_none : (r : Bool) (cats : List Cat) (texts listed : List (List ℕ)) (form : List PlainToken) → r ≡ false → (IsTrue r ↔ IsVariable texts listed form) → texts ≡ category_names cats
    → IsVariable (category_names cats) listed form → ⊥
found_none r cats texts listed form fails tells same is =
    let holds : r ≡ true = tells.1 (subst (λ ns. IsVariable ns listed form) (sym same) is) in
    let never : false ≡ true = sym fails ∙ holds in absurd cc

-- what is made of one portion more
pub zip_portion : {Z : Type 0} (R : WrittenCategory → Z → Type 0) (portions : List Portion) (i : ℕ) (item : Portion) (old new own : List Z) → i < length portions → item ≡ get_or portions i item
    → AllZip R (categories (plains (take i portions))) old → new ≡ old ++ own → AllZip R (category_in (plain_portion (portion_view item))) own
    → AllZip R (categories (plains (take (i + 1) portions))) new
zip_portion {Z = Z} R portions i item old new own lt is zip made more =
    let one : take (i + 1) portions ≡ take i portions ++ item ∷ [] = take_more portions i item lt ∙ ap (λ (p : Portion). take i portions ++ p ∷ []) (sym is) in
    let all : categories (plains (take (i + 1) portions)) ≡ categories (plains (take i portions)) ++ category_in (plain_portion (portion_view item)) =
    ap (λ (ps : List Portion). categories (plains ps)) one
    ∙ ap categories (map-append (λ (p : Portion). plain_portion (portion_view p)) (take i portions) (item ∷ []))
    ∙ flat_map-append category_in (plains (take i portions)) (plain_portion (portion_view item) ∷ [])
    ∙ ap (λ (ws : List WrittenCategory). categories (plains (take i portions)) ++ ws) (append-nil (category_in (plain_portion (portion_view item)))) in
    subst (λ (ws : List WrittenCategory). AllZip R ws new) (sym all)
    (subst (λ (zs : List Z). AllZip R (categories (plains (take i portions)) ++ category_in (plain_portion (portion_view item))) zs) (sym made)
    (zip_append R (categories (plains (take i portions))) (category_in (plain_portion (portion_view item))) old own zip more))
