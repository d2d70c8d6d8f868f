-- A source has one first fault of its grammar at most.
use Rattle.std.proofs.Common.{◌≡◌, ◌⊎◌, ℕ, List, [], ◌∷◌, ◌++◌, map, inl, inr, refl, sym, ap, subst, ◌∙◌}
use Rattle.std.specs.List.{Contains}
use Rattle.binding_terms.specs.Numbered.{AnyByRecursion}
use Rattle.sy_base.specs.FirstFault.{at_token}
use Rattle.sy_base.specs.Tokens.{PlainToken}
use Rattle.sy_base.specs.declared.fault.Code.{Code}
use Rattle.sy_base.specs.declared.fault.Code.TheVariants as code
use Rattle.sy_base.proofs.FirstLemmas.{IsToldFirst-both}
use Rattle.sy_base.proofs.PlaceLemmas.{tokens_stand}
use Rattle.outline_reader.specs.Fields.{named}
use Rattle.outline_reader.specs.Plain.{PlainPortion, terminals, category, judgment_of, theorem_of, plain_portion, HasPortions}
use Rattle.user_grammar.specs.File.{WrittenCategory, categories}
use Rattle.user_grammar.specs.Fault.{Declared, declared_as, a_terminal, a_variable, DeclareAll, DeclaresHere, AreVariables, no_variables, a_word, a_production, IsDuplicate, common_spelling, second_variable, IsWrongInBrackets, no_word, no_binder, again, no_comma, not_closed, AssumesHere, IsFault, duplicate, empty_production, single_category, unknown_word, unknown_context, bad_binder, binder_twice, bad_context, IsFirstFault}
use Rattle.proof_check.proofs.TokenLemmas.{same_place}
use Rattle.proof_check.proofs.PortionTokens.{In, in_split, InForms, BehindName, InPortion, of_source, category_portion}
use Rattle.proof_check.proofs.CategoryTokens.{IsCategoryIn, rising, one_name}
use Rattle.binding_terms.proofs.Lists.{any_one, any_split, contains_any}

-- ---- the token of a fault

variable_form : (ps : List PlainPortion) (forms : List (List PlainToken)) (tokens : List PlainToken) (token : PlainToken) → AreVariables ps forms tokens → In tokens token → InForms forms token
variable_form ps forms tokens token no_variables is = absurd is
variable_form ps ((t ∷ []) ∷ forms) (s ∷ tokens) token (a_word declares are) (inl same) = inl (inl same)
variable_form ps ((t ∷ []) ∷ forms) (s ∷ tokens) token (a_word declares are) (inr is) = inr (variable_form ps forms tokens token are is)
variable_form ps (form ∷ forms) tokens token (a_production none are) is = inr (variable_form ps forms tokens token are is)

declared_here : (ps : List PlainPortion) (p : PlainPortion) (ds : List Declared) (token : PlainToken) → DeclaresHere ps p ds → AnyByRecursion (λ d. d.token ≡ token) ds → InPortion token p
declared_here ps (terminals first items) ds token is there = items_of items (subst (AnyByRecursion (λ (d : Declared). d.token ≡ token)) is there)
  where
    items_of : (items : List PlainToken) → AnyByRecursion (λ (d : Declared). d.token ≡ token) (map (declared_as a_terminal) items) → In items token
    items_of [] there = absurd there
    items_of (t ∷ items) (inl same) = inl same
    items_of (t ∷ items) (inr there) = inr (items_of items there)
declared_here ps (category name mark forms) ds token is there =
    which (subst (AnyByRecursion (λ (d : Declared). d.token ≡ token)) is.2 there)
  where
    variables_of : (tokens : List PlainToken) → AnyByRecursion (λ (d : Declared). d.token ≡ token) (map (declared_as a_variable) tokens) → In tokens token
    variables_of [] there = absurd there
    variables_of (t ∷ tokens) (inl same) = inl same
    variables_of (t ∷ tokens) (inr there) = inr (variables_of tokens there)

    which : (name ≡ token) ⊎ AnyByRecursion (λ (d : Declared). d.token ≡ token) (map (declared_as a_variable) is.0) → InPortion token (category name mark forms)
    which (inl same) = inl same
    which (inr there) = inr (inr (variable_form ps forms is.0 token is.1 (variables_of is.0 there)))
declared_here ps p ds token is there = absurd (subst (AnyByRecursion (λ (d : Declared). d.token ≡ token)) is there)

abbrev HasToken : List Declared → PlainToken → Type 0
HasToken ds token = AnyByRecursion (λ (d : Declared). d.token ≡ token) ds

declared_there : (all : List PlainPortion) (p : PlainPortion) (ps : List PlainPortion) (here others : List Declared) (token : PlainToken) → DeclaresHere all p here →
    (HasToken others token → AnyByRecursion (InPortion token) ps) → HasToken here token ⊎ HasToken others token → AnyByRecursion (InPortion token) (p ∷ ps)
declared_there all p ps here others token is below (inl first) = inl (declared_here all p here token is first)
declared_there all p ps here others token is below (inr later) = inr (below later)

declared_among : (all : List PlainPortion) (ps : List PlainPortion) (ds : List Declared) (token : PlainToken) → DeclareAll all ps ds → HasToken ds token → AnyByRecursion (InPortion token) ps
declared_among all [] ds token is there = absurd (subst (λ (es : List Declared). HasToken es token) is there)
declared_among all (p ∷ ps) ds token is there =
    declared_there all p ps is.0 is.1 token is.3 (λ later. declared_among all ps is.1 token is.4 later)
    (any_split (λ (d : Declared). d.token ≡ token) is.0 is.1 (subst (λ (es : List Declared). HasToken es token) is.2 there))

declared_split : (before after : List Declared) (d : Declared) → AnyByRecursion (λ one. one.token ≡ d.token) (before ++ d ∷ after)
declared_split [] after d = inl refl
declared_split (one ∷ before) after d = inr (declared_split before after d)

-- the code is told with the name of the category in which its token stands
abbrev TellsCategory : Code → Type 0
TellsCategory code.SingleCategory = Unit {0}
TellsCategory code.BadContext = Unit {0}
TellsCategory _ = ⊥

module _ (ps : List PlainPortion) (token : PlainToken) where
  abbrev Here : Type 0
  Here = AnyByRecursion (InPortion token) ps

  in_category : (written : WrittenCategory) → Contains (categories ps) written → (written.name ≡ token) ⊎ BehindName written token → Here
  in_category written holds stands = category_portion ps written token (contains_any (categories ps) written holds.0 holds.1 holds.2) stands

  in_form : (written : WrittenCategory) (form : List PlainToken) → Contains (categories ps) written → Contains written.forms form → In form token → Here
  in_form written form holds has there =
      in_category written holds (inr (inr (any_one (λ f. In f token) written.forms form (contains_any written.forms form has.0 has.1 has.2) there)))

  stands_in : (form front rest : List PlainToken) → form ≡ front ++ token ∷ rest → In form token
  stands_in form front rest split = subst (λ (f : List PlainToken). In f token) (sym split) (in_split front rest token)

  duplicate_here : IsDuplicate ps token → Here
  duplicate_here (common_spelling all before after sort earlier word are split holds one two) =
      declared_among ps ps all token are (subst (AnyByRecursion (λ (d : Declared). d.token ≡ token)) (sym split) (declared_split before after (declared_as sort token)))
  duplicate_here (second_variable written first before after holds are) =
      in_category written holds (inr (inr (variable_form ps written.forms _ token are (inr (in_split before after token)))))

  wrong_here : (form : List PlainToken) → IsWrongInBrackets ps form token → In form token
  wrong_here form (no_word named stands is) = stands_in form stands.front stands.rest stands.split
  wrong_here form (no_binder named stands is) = stands_in form stands.front stands.rest stands.split
  wrong_here form (again named stands is among) = stands_in form stands.front stands.rest stands.split
  wrong_here form (no_comma named stands is other) = stands_in form stands.front stands.rest stands.split
  wrong_here form (not_closed named stands is none) = stands_in form stands.front stands.rest stands.split

  assumed_here : (p : PlainPortion) → AssumesHere p token → InPortion token p
  assumed_here (judgment_of first name form assumes) is = is
  assumed_here (theorem_of first joined kind name assumes inputs outputs targets) is = is
  assumed_here p is = absurd is

  -- what is told with a code at the token
  abbrev IsOfCategory : (found : Code) (detail : List ℕ) → Type 0
  IsOfCategory found detail =
      TellsCategory found × ((written : WrittenCategory) × AnyByRecursion (λ w. w ≡ written) (categories ps) × BehindName written token × (detail ≡ written.name.text))

  abbrev IsOfToken : (found : Code) (detail : List ℕ) → Type 0
  IsOfToken found detail = (TellsCategory found → ⊥) × (detail ≡ token.text)

  pub record Told (found : Code) (detail : List ℕ) : Type 0 where
    pub here : Here
    pub kind : IsOfToken found detail ⊎ IsOfCategory found detail

  of_code : (one found : Code) (detail : List ℕ) → found ≡ one → (TellsCategory one → ⊥) → detail ≡ token.text → Here → Told found detail
  of_code one found detail same other words here = record {
    here = here;
    kind = inl ((λ tells. other (subst TellsCategory same tells)), words);
  }

  told : (found : Code) (detail : List ℕ) → IsFault ps found token detail → Told found detail
  told found detail (duplicate same words is) = of_code code.Duplicate found detail same (λ none. none) words (duplicate_here is)
  told found detail (empty_production written same words holds name has) = of_code code.EmptyProduction found detail same (λ none. none) words (in_category written holds (inl (sym name)))
  told found detail (single_category written rest same words holds has one) = record {
    here = in_form written (token ∷ rest) holds has (inl refl);
    kind = inr (
      subst TellsCategory (sym same) tt,
      (
        written,
        contains_any (categories ps) written holds.0 holds.1 holds.2,
        inr (any_one (λ f. In f token) written.forms (token ∷ rest) (contains_any written.forms (token ∷ rest) has.0 has.1 has.2) (inl refl)),
        words,
      ),
    );
  }
  told found detail (unknown_word written form same words holds has is) =
      let stands = is.stands.stands in
      of_code code.UnknownWord found detail same (λ none. none) words (in_form written form holds has (stands_in form stands.front stands.rest stands.split))
  told found detail (unknown_context p same words holds assumes none) =
      of_code code.UnknownWord found detail same (λ none. none) words
      (any_one (InPortion token) ps p (contains_any ps p holds.0 holds.1 holds.2) (assumed_here p assumes))
  told found detail (bad_binder written form same words holds has is) =
      of_code code.BadBinder found detail same (λ none. none) words (in_form written form holds has (wrong_here form is))
  told found detail (binder_twice written form same words holds has is) =
      let stands = is.stands.stands in
      of_code code.BinderTwice found detail same (λ none. none) words (in_form written form holds has (stands_in form stands.front stands.rest stands.split))
  told found detail (bad_context written same words holds mark among none) = record {
    here = in_category written holds (inr (inl (sym mark)));
    kind = inr (subst TellsCategory (sym same) tt, (written, contains_any (categories ps) written holds.0 holds.1 holds.2, inl (sym mark), words));
  }

-- ---- one first fault

module _ (source : List ℕ) (ps : List PlainPortion) (has : HasPortions source ps) where
  same_name : (one two : WrittenCategory) (t u : PlainToken) → IsCategoryIn ps one → IsCategoryIn ps two → BehindName one t → BehindName two u → t.from ≡ u.from → one.name ≡ two.name
  same_name one two t u first second in_one in_two same =
      let here = has.plain ∙ ap (map plain_portion) has.outline.2 in
      let stand = tokens_stand source _ has.are_tokens in
      one_name has.outline.0 has.tokens (rising source 0 has.tokens stand.1 stand.0) one two t u
      (subst (λ (qs : List PlainPortion). IsCategoryIn qs one) here first) (subst (λ (qs : List PlainPortion). IsCategoryIn qs two) here second) in_one in_two same

  same_detail : (found : Code) (t u : PlainToken) (detail others : List ℕ) → t ≡ u → Told ps t found detail → Told ps u found others → detail ≡ others
  same_detail found t u detail others same one two = which one.kind two.kind
    where
      which : IsOfToken ps t found detail ⊎ IsOfCategory ps t found detail → IsOfToken ps u found others ⊎ IsOfCategory ps u found others → detail ≡ others
      which (inl a) (inl b) = a.1 ∙ ap (λ (x : PlainToken). x.text) same ∙ sym b.1
      which (inl a) (inr b) = absurd (a.0 b.0)
      which (inr a) (inl b) = absurd (b.0 a.0)
      which (inr a) (inr b) = a.1.3 ∙ ap (λ (x : PlainToken). x.text) (same_name a.1.0 b.1.0 t u a.1.1 b.1.1 a.1.2 b.1.2 (ap (λ (x : PlainToken). x.from) same)) ∙ sym b.1.3

  pub one_grammar_fault : (line other : ℕ) (found others : Code) (detail words : List ℕ) →
      IsFirstFault ps line found detail → IsFirstFault ps other others words → (line ≡ other) × (found ≡ others) × (detail ≡ words)
  one_grammar_fault line other found others detail words one two =
      let one_told = told ps one.point found detail one.is_first.stands in
      let two_told = told ps two.point others words two.is_first.stands in
      let both = IsToldFirst-both found others (at_token one.point) (at_token two.point)
      (one.is_first.first others two.point words two.is_first.stands) (two.is_first.first found one.point detail one.is_first.stands) in
      let token_same : one.point ≡ two.point = same_place source one.point two.point (of_source source ps one.point has one_told.here) (of_source source ps two.point has two_told.here) both.2 in (
        one.line_is ∙ both.1 ∙ sym two.line_is,
        both.0,
        same_detail found one.point two.point detail words token_same one_told (subst (λ (c : Code). Told ps two.point c words) (sym both.0) two_told),
      )
