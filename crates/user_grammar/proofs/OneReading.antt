-- A form stands for one production, and the forms of a category for one variable and one list of productions.
use Rattle.std.proofs.Common.{◌≡◌, ℕ, List, [], ◌∷◌, Option, refl, ap, ◌∙◌, sym, subst, inl, inr, ◌==◌, arith}
use Rattle.sy_base.specs.Tokens.{PlainToken}
use Rattle.binding_terms.specs.declared.grammar.Cat.{Cat}
use Rattle.binding_terms.specs.declared.grammar.Item.{Item}
use Rattle.binding_terms.specs.declared.grammar.Item.TheVariants.{Word, Slot, Binder}
use Rattle.binding_terms.specs.declared.grammar.Prod.{Prod}
use Rattle.rule_schemes.specs.Reading.{MayBeTerminal, IsCategoryWord}
use Rattle.user_grammar.specs.Names.{names, category_names, variable_names, IsNoSpelling, AllApart, AllDiffer}
use Rattle.user_grammar.specs.Production.{IsMark, AreNumbers, AreItems, no_items, terminal, binder, slot, IsProduction, IsVariable}
use Rattle.user_grammar.specs.Grammar.{AreForms, no_forms, variable, production}
use Rattle.user_grammar.proofs.Spellings.{Spells, one_category, one_variable, not_both, no_category, no_variable, apart_left, apart_right}
use Rattle.user_grammar.proofs.OneWay.{NotOpened, one_way, one_list}

word_is_no_mark : (token : PlainToken) → token.kind ≡ 0 → IsMark 91 token → ⊥
word_is_no_mark token kind mark = absurd (let same : 0 ≡ 2 = sym kind ∙ mark.0 in let never : ⊥ = omega (arith, same) in never)

terminal_is_no_mark : (token : PlainToken) → MayBeTerminal token.kind token.text → IsMark 91 token → ⊥
terminal_is_no_mark token (inl kind) mark = word_is_no_mark token kind mark
terminal_is_no_mark token (inr (inl symbol)) mark = let same : 1 ≡ 2 = sym symbol.0 ∙ mark.0 in absurd (let never : ⊥ = omega (arith, same) in never)
terminal_is_no_mark token (inr (inr (inl single))) mark = single.3 mark.1
terminal_is_no_mark token (inr (inr (inr quoted))) mark = let same : 4 ≡ 2 = sym quoted ∙ mark.0 in absurd (let never : ⊥ = omega (arith, same) in never)

module _ (cats : List Cat) (listed : List (List ℕ)) (apart : AllApart (names cats)) where
  -- no item begins with an opening bracket
  pub not_opened : {own words : List (List ℕ)} {tokens : List PlainToken} {items : List Item} → AreItems cats listed own tokens items words → NotOpened tokens
  not_opened no_items = tt
  not_opened (terminal {token = token} is plain more) = terminal_is_no_mark token is.may_be
  not_opened (binder {token = token} kind spells more) = word_is_no_mark token kind
  not_opened (slot {token = token} kind spells bound numbers more) = word_is_no_mark token kind

  terminal_or_binder : (token : PlainToken) (c : ℕ) → (token.kind ≡ 0 → IsNoSpelling (names cats) token.text) → token.kind ≡ 0 → Spells cats c token.text → ⊥
  terminal_or_binder token c plain kind spells = no_variable cats c token.text (plain kind) spells

  terminal_or_slot : (token : PlainToken) (c : ℕ) → (token.kind ≡ 0 → IsNoSpelling (names cats) token.text) → token.kind ≡ 0 → IsCategoryWord cats c token.text → ⊥
  terminal_or_slot token c plain kind spells = no_category cats c token.text (plain kind) spells

  -- the words of the binders are those of the tokens
  pub same_words : {own other words others : List (List ℕ)} {tokens : List PlainToken} {items again : List Item}
      → AreItems cats listed own tokens items words → AreItems cats listed other tokens again others → words ≡ others
  same_words no_items no_items = refl
  same_words (terminal is plain more) (terminal also bare rest) = same_words more rest
  same_words (terminal {token = token} is plain more) (binder {c = c} kind spells rest) = absurd (terminal_or_binder token c.0 plain kind spells)
  same_words (terminal {token = token} is plain more) (slot {c = c} kind spells bound numbers rest) = absurd (terminal_or_slot token c.0 plain kind spells)
  same_words (binder {token = token} {c = c} kind spells more) (terminal is plain rest) = absurd (terminal_or_binder token c.0 plain kind spells)
  same_words (binder {token = token} kind spells more) (binder again also rest) = ap (λ ws. token.text ∷ ws) (same_words more rest)
  same_words (binder {token = token} {c = c} kind spells more) (slot {c = d} again also bound numbers rest) = absurd (not_both cats d.0 c.0 token.text apart also spells)
  same_words (slot {token = token} {c = c} kind spells bound numbers more) (terminal is plain rest) = absurd (terminal_or_slot token c.0 plain kind spells)
  same_words (slot {token = token} {c = c} kind spells bound numbers more) (binder {c = d} again also rest) = absurd (not_both cats c.0 d.0 token.text apart spells also)
  same_words {other = other} {others = others} (slot kind spells bound numbers more) (slot {items = items} again also also_bound ns rest) =
      let same = one_way bound also_bound (not_opened more) (not_opened rest) in
      same_words more (subst (λ left. AreItems cats listed other left items others) (sym same.1) rest)

  -- and the items too, where the binders' words differ
  pub same_items : {own words others : List (List ℕ)} {tokens : List PlainToken} {items again : List Item} → AllDiffer own
      → AreItems cats listed own tokens items words → AreItems cats listed own tokens again others → items ≡ again
  same_items differ no_items no_items = refl
  same_items differ (terminal {token = token} is plain more) (terminal also bare rest) = ap (λ left. Word token.text (token.kind == 4) ∷ left) (same_items differ more rest)
  same_items differ (terminal {token = token} is plain more) (binder {c = c} kind spells rest) = absurd (terminal_or_binder token c.0 plain kind spells)
  same_items differ (terminal {token = token} is plain more) (slot {c = c} kind spells bound numbers rest) = absurd (terminal_or_slot token c.0 plain kind spells)
  same_items differ (binder {token = token} {c = c} kind spells more) (terminal is plain rest) = absurd (terminal_or_binder token c.0 plain kind spells)
  same_items differ (binder {token = token} {c = c} {items = items} kind spells more) (binder {c = d} again also rest) =
      ap (λ (n : ℕ). Binder (record { 0 = n }) ∷ items) (one_variable cats c.0 d.0 token.text (apart_right (category_names cats) (variable_names cats) apart) spells also)
      ∙ ap (λ left. Binder d ∷ left) (same_items differ more rest)
  same_items differ (binder {token = token} {c = c} kind spells more) (slot {c = d} again also bound numbers rest) = absurd (not_both cats d.0 c.0 token.text apart also spells)
  same_items differ (slot {token = token} {c = c} kind spells bound numbers more) (terminal is plain rest) = absurd (terminal_or_slot token c.0 plain kind spells)
  same_items differ (slot {token = token} {c = c} kind spells bound numbers more) (binder {c = d} again also rest) = absurd (not_both cats c.0 d.0 token.text apart spells also)
  same_items {own = own} {others = others} differ (slot {token = token} {c = c} {bound = bound} {binds = ns} {items = items} kind spells in_brackets numbers more)
      (slot {c = d} {bound = also_bound} {binds = ms} {items = again} again_kind also also_in_brackets also_numbers rest) =
      let same = one_way in_brackets also_in_brackets (not_opened more) (not_opened rest) in
      let cat = one_category cats c.0 d.0 token.text (apart_left (category_names cats) (variable_names cats) apart) spells also in
      let binds = one_list own bound ns ms differ numbers (subst (λ ws. AreNumbers own ws ms) (sym same.0) also_numbers) in
      let left = same_items differ more (subst (λ left. AreItems cats listed own left again others) (sym same.1) rest) in
      ap (λ (n : ℕ). Slot (record { 0 = n }) ns ∷ items) cat ∙ ap (λ ks. Slot d ks ∷ items) binds ∙ ap (λ xs. Slot d ms ∷ xs) left

  -- a form of a category stands for one production
  pub one_production : (c : ℕ) (form : List PlainToken) (prod other : Prod) → IsProduction cats listed c form prod → IsProduction cats listed c form other → prod ≡ other
  one_production c form prod other one also =
      let words = same_words one.items also.items in
      let items = same_items one.different one.items (subst (λ ws. AreItems cats listed ws form other.items ws) (sym words) also.items) in
      ap (λ (n : ℕ). record { cat = record { 0 = n }; items = prod.items }) (one.cat ∙ sym also.cat)
      ∙ ap (λ (xs : List Item). record { cat = other.cat; items = xs }) items

  -- the forms of a category stand for one list of productions
  pub one_list_of_productions : {c : ℕ} {var also : Option (List ℕ)} {forms : List (List PlainToken)} {prods others : List Prod}
      → AreForms cats listed c var forms prods → AreForms cats listed c also forms others → prods ≡ others
  one_list_of_productions no_forms no_forms = refl
  one_list_of_productions (variable is more) (variable again rest) = one_list_of_productions more rest
  one_list_of_productions (variable is more) (production not made rest) = absurd (not is)
  one_list_of_productions (production not made more) (variable is rest) = absurd (not is)
  one_list_of_productions {c = c} (production {form = form} {prod = prod} {prods = prods} not made more) (production {prod = other} {prods = others} nor made_too rest) =
      ap (λ p. p ∷ prods) (one_production c form prod other made made_too) ∙ ap (λ ps. other ∷ ps) (one_list_of_productions more rest)

-- and for one variable, by the names of the categories alone
pub same_variable : {cats others : List Cat} {listed : List (List ℕ)} {c : ℕ} {var also : Option (List ℕ)} {forms : List (List PlainToken)} {prods again : List Prod}
    → category_names cats ≡ category_names others → AreForms cats listed c var forms prods → AreForms others listed c also forms again → var ≡ also
same_variable same no_forms no_forms = refl
same_variable same (variable {token = token} is more) (variable too rest) = refl
same_variable {listed = listed} same (variable {token = token} is more) (production not made rest) = absurd (not (subst (λ ns. IsVariable ns listed (token ∷ [])) same is))
same_variable {listed = listed} same (production not made more) (variable {token = token} is rest) = absurd (not (subst (λ ns. IsVariable ns listed (token ∷ [])) (sym same) is))
same_variable same (production not made more) (production nor made_too rest) = same_variable same more rest
