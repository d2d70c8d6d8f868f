-- The system of a file, portion by portion.
use Rattle.std.proofs.Common.{◌≡◌, ◌+◌, ◌<◌, ℕ, zero, suc, false, List, [], ◌∷◌, ◌++◌, length, map, take, drop, get_or, refl, ap, ◌∙◌, sym, subst, Option, slice_get, MatchOption, IfOk, Result, Ok, Err, append-nil, append_assoc}
use Rattle.std.specs.List.{AllByRecursion, AllZip}
use Rattle.std.proofs.lemmas.List.{take_more, drop_more, take-append-drop}
use Rattle.binding_terms.specs.Signature.{Signature, Place, slots, binders, IsPlain, IsContext}
use Rattle.binding_terms.specs.declared.grammar.Cat.{Cat}
use Rattle.binding_terms.specs.declared.grammar.CatId.{CatId}
use Rattle.binding_terms.specs.declared.grammar.Item.{Item}
use Rattle.binding_terms.specs.declared.grammar.Item.TheVariants.{Word, Slot, Binder}
use Rattle.sy_base.specs.Tokens.{PlainToken}
use Rattle.proof_lexer.specs.View.{token_view, kind_and_text}
use Rattle.proof_lexer.specs.declared.token.Token as of_token
use Rattle.outline_reader.specs.Plain.{PlainPortion, plain_form, taken}
use Rattle.rule_schemes.specs.Reading.{Token, IsCategoryWord, AreSpelledApart}
use Rattle.rule_schemes.specs.Rules.{Rule, Theory, JudgmentFits, argument_slots, IsSystem}
use Rattle.rule_schemes.specs.declared.rule.Judgment.{Judgment}
use Rattle.user_grammar.specs.Bare.{IsBareSignature}
use Rattle.judgments.specs.Bare.{IsBareJudgment, IsBareTheory}
use Rattle.judgments.specs.Built.{IsBuiltJudgment, HasRulesOf}
use Rattle.judgments.specs.Texts.{JudgmentText, RuleText, as_read, judgments_in, rule_in, rules_in, block_after}
use Rattle.judgments.specs.Theory.{IsItemOf, IsJudgmentOf, IsBlockRule, IsTheoryOf, AreNamedApart, a_judgment, a_rule}
use Rattle.judgments.proofs.OneRule.{one_rule}
use Rattle.judgments.proofs.Spelling.{none_spelled}
use Rattle.binding_terms.proofs.Lists.{map_append, zip_append, zip_both, zip_map, zip_right, zip_split, zip_unique}

-- forms are read as their tokens are lent
pub form_read : (ts : List of_token.Token) → map taken (map token_view ts) ≡ map kind_and_text ts
form_read [] = refl
form_read (t ∷ ts) = ap (λ l. kind_and_text t ∷ l) (form_read ts)

pub forms_read : {X : Type 0} (now : X → List of_token.Token) (xs : List X) → map as_read (map plain_form (map now xs)) ≡ map (λ x. map kind_and_text (now x)) xs
forms_read now [] = refl
forms_read now (x ∷ xs) =
    let first : as_read (plain_form (now x)) ≡ map kind_and_text (now x) = form_read (now x) in
    let rest = forms_read now xs in
    cc

-- a rule as it is written
abbrev pub written_rule : ℕ → List ℕ → List (List Token) → List Token → RuleText
written_rule n w premises conclusion = record { block = n; name = w; premises = premises; conclusion = conclusion }

pub same_text : {X : Type 0} (now : X → List of_token.Token) (n : ℕ) (w : List ℕ) (xs : List X) (last : List of_token.Token)
    → written_rule n w (map (λ x. map kind_and_text (now x)) xs) (map kind_and_text last) ≡ written_rule n w (map as_read (map plain_form (map now xs))) (as_read (plain_form last))
same_text now n w xs last = λ i. record { block = n; name = w; premises = sym (forms_read now xs) i; conclusion = sym (form_read last) i }

-- one rule more
pub rule_added : (th more : Theory) (text other : RuleText) (r : Rule) → text ≡ other → IsBlockRule th.sig th.judgments text r → more ≡ record { sig = th.sig; judgments = th.judgments; rules = th.rules ++ r ∷ [] }
    → HasRulesOf th (other ∷ []) more
rule_added th more text other r same h is =
    record {
      sig = ap (λ (t : Theory). t.sig) is;
      judgments = ap (λ (t : Theory). t.judgments) is;
      added = r ∷ [];
      rules = ap (λ (t : Theory). t.rules) is;
      written = (subst (λ (t : RuleText). IsBlockRule th.sig th.judgments t r) same h, tt);
    }

pub rule_none : (sig : Signature) (js : List Judgment) (text other : RuleText) → text ≡ other → ((r : Rule) → IsBlockRule sig js text r → ⊥) → (rs : List Rule) → AllZip (IsBlockRule sig js) (other ∷ []) rs → ⊥
rule_none sig js text other same none [] h = h
rule_none sig js text other same none (r ∷ rs) h = none r (subst (λ (t : RuleText). IsBlockRule sig js t r) (sym same) h.0)

-- rules more and again more
pub added_twice : (th mid more : Theory) (texts others : List RuleText) → HasRulesOf th texts mid → HasRulesOf mid others more → HasRulesOf th (texts ++ others) more
added_twice th mid more texts others h k =
    record {
      sig = k.sig ∙ h.sig;
      judgments = k.judgments ∙ h.judgments;
      added = h.added ++ k.added;
      rules = k.rules ∙ ap (λ l. l ++ k.added) h.rules ∙ append_assoc th.rules h.added k.added;
      written = zip_append (IsBlockRule th.sig th.judgments) texts others h.added k.added h.written
          (subst (λ (s : Signature). AllZip (IsBlockRule s th.judgments) others k.added) h.sig (subst (λ js. AllZip (IsBlockRule mid.sig js) others k.added) h.judgments k.written));
    }

pub bare_more : (th more : Theory) (texts : List RuleText) → IsBareTheory th → HasRulesOf th texts more → IsBareTheory more
bare_more th more texts bare h =
    record {
      sig = subst IsBareSignature (sym h.sig) bare.sig;
      apart = subst AreSpelledApart (sym h.sig) bare.apart;
      judgments = subst (AllByRecursion IsBareJudgment) (sym h.judgments) bare.judgments;
    }

-- the number of judgments after portions
abbrev pub blocks : ℕ → List PlainPortion → ℕ
blocks n [] = n
blocks n (p ∷ ps) = blocks (block_after n p) ps

blocks_append : (n : ℕ) (ps qs : List PlainPortion) → blocks n (ps ++ qs) ≡ blocks (blocks n ps) qs
blocks_append n [] qs = refl
blocks_append n (p ∷ ps) qs = blocks_append (block_after n p) ps qs

rules_append : (n : ℕ) (ps qs : List PlainPortion) → rules_in n (ps ++ qs) ≡ rules_in n ps ++ rules_in (blocks n ps) qs
rules_append n [] qs = refl
rules_append n (p ∷ ps) qs = ap (λ l. rule_in n p ++ l) (rules_append (block_after n p) ps qs) ∙ sym (append_assoc (rule_in n p) (rules_in (block_after n p) ps) (rules_in (blocks (block_after n p) ps) qs))

module _ {X : Type 0} (f : X → PlainPortion) (xs : List X) (i : ℕ) (d : X) (lt : i < length xs) where
  one_more : map f (take (i + 1) xs) ≡ map f (take i xs) ++ f (get_or xs i d) ∷ []
  one_more = ap (map f) (take_more xs i d lt) ∙ map_append f (take i xs) (get_or xs i d ∷ [])

  pub next_block : (n m : ℕ) → n ≡ blocks 0 (map f (take i xs)) → m ≡ block_after n (f (get_or xs i d)) → m ≡ blocks 0 (map f (take (i + 1) xs))
  next_block n m h k = k ∙ ap (λ b. block_after b (f (get_or xs i d))) h ∙ sym (ap (blocks 0) one_more ∙ blocks_append 0 (map f (take i xs)) (f (get_or xs i d) ∷ []))

  -- the rules of one portion more
  pub next_rules : (th mid more : Theory) (n : ℕ) → n ≡ blocks 0 (map f (take i xs)) → HasRulesOf th (rules_in 0 (map f (take i xs))) mid → HasRulesOf mid (rule_in n (f (get_or xs i d))) more
      → HasRulesOf th (rules_in 0 (map f (take (i + 1) xs))) more
  next_rules th mid more n e h k =
      let all : rules_in 0 (map f (take (i + 1) xs)) ≡ rules_in 0 (map f (take i xs)) ++ rule_in n (f (get_or xs i d)) =
      ap (rules_in 0) one_more ∙ rules_append 0 (map f (take i xs)) (f (get_or xs i d) ∷ [])
      ∙ ap (λ l. rules_in 0 (map f (take i xs)) ++ l) (append-nil (rule_in (blocks 0 (map f (take i xs))) (f (get_or xs i d))) ∙ ap (λ b. rule_in b (f (get_or xs i d))) (sym e)) in
      subst (λ texts. HasRulesOf th texts more) (sym all) (added_twice th mid more (rules_in 0 (map f (take i xs))) (rule_in n (f (get_or xs i d))) h k)

  -- where one portion stands for no rule, the portions stand for none
  pub no_rules : (th mid : Theory) (n : ℕ) → n ≡ blocks 0 (map f (take i xs)) → HasRulesOf th (rules_in 0 (map f (take i xs))) mid
      → ((rs : List Rule) → AllZip (IsBlockRule mid.sig mid.judgments) (rule_in n (f (get_or xs i d))) rs → ⊥) → (rs : List Rule) → AllZip (IsBlockRule th.sig th.judgments) (rules_in 0 (map f xs)) rs → ⊥
  no_rules th mid n e h none rs k =
      let parts : map f xs ≡ map f (take i xs) ++ (f (get_or xs i d) ∷ map f (drop (i + 1) xs)) =
      ap (map f) (sym (take-append-drop i xs) ∙ ap (λ l. take i xs ++ l) (drop_more xs i d lt)) ∙ map_append f (take i xs) (get_or xs i d ∷ drop (i + 1) xs) in
      let all : rules_in 0 (map f xs) ≡ rules_in 0 (map f (take i xs)) ++ (rule_in n (f (get_or xs i d)) ++ rules_in (block_after n (f (get_or xs i d))) (map f (drop (i + 1) xs))) =
      ap (rules_in 0) parts ∙ rules_append 0 (map f (take i xs)) (f (get_or xs i d) ∷ map f (drop (i + 1) xs))
      ∙ ap (λ b. rules_in 0 (map f (take i xs)) ++ (rule_in b (f (get_or xs i d)) ++ rules_in (block_after b (f (get_or xs i d))) (map f (drop (i + 1) xs)))) (sym e) in
      let two = zip_split (IsBlockRule th.sig th.judgments) (rules_in 0 (map f (take i xs))) (rule_in n (f (get_or xs i d)) ++ rules_in (block_after n (f (get_or xs i d))) (map f (drop (i + 1) xs))) rs
      (subst (λ texts. AllZip (IsBlockRule th.sig th.judgments) texts rs) all k) in
      let here = zip_split (IsBlockRule th.sig th.judgments) (rule_in n (f (get_or xs i d))) (rules_in (block_after n (f (get_or xs i d))) (map f (drop (i + 1) xs))) two.1 two.4 in
      none here.0
      (subst (λ (s : Signature). AllZip (IsBlockRule s mid.judgments) (rule_in n (f (get_or xs i d))) here.0) (sym h.sig)
      (subst (λ js. AllZip (IsBlockRule th.sig js) (rule_in n (f (get_or xs i d))) here.0) (sym h.judgments) here.3))

-- a judgment of a bare theory fits its signature
module _ (sig : Signature) (bare : IsBareSignature sig) (portions : List PlainPortion) where
  plain_cat : (cats : List Cat) (c : ℕ) (w : List ℕ) → AllByRecursion (λ (cat : Cat). cat.context ≡ false) cats → IsCategoryWord cats c w → MatchOption (slice_get cats c) ⊥ (λ cat. cat.context ≡ false)
  plain_cat [] c w none h = h
  plain_cat (k ∷ cats) zero w none h = none.0
  plain_cat (k ∷ cats) (suc c) w none h = plain_cat cats c w none.1 h

  no_binders : (form : List PlainToken) (items : List Item) → AllZip (IsItemOf sig portions) form items → binders items ≡ []
  no_binders [] [] h = refl
  no_binders [] (i ∷ items) h = absurd h
  no_binders (t ∷ form) [] h = refl
  no_binders (t ∷ form) (Word text quoted ∷ items) h = no_binders form items h.1
  no_binders (t ∷ form) (Slot c binds ∷ items) h = no_binders form items h.1
  no_binders (t ∷ form) (Binder c ∷ items) h = absurd h.0

  bind_nothing : (form : List PlainToken) (items : List Item) → AllZip (IsItemOf sig portions) form items → AllByRecursion (λ (s : Place). s.binds ≡ []) (slots items)
  bind_nothing [] [] h = tt
  bind_nothing [] (i ∷ items) h = absurd h
  bind_nothing (t ∷ form) [] h = tt
  bind_nothing (t ∷ form) (Word text quoted ∷ items) h = bind_nothing form items h.1
  bind_nothing (t ∷ form) (Slot c binds ∷ items) h = ((h.0).2, bind_nothing form items h.1)
  bind_nothing (t ∷ form) (Binder c ∷ items) h = absurd h.0

  plain_slots : (form : List PlainToken) (items : List Item) → AllZip (IsItemOf sig portions) form items → AllByRecursion (λ (s : Place). IsPlain sig s.cat) (slots items)
  plain_slots [] [] h = tt
  plain_slots [] (i ∷ items) h = absurd h
  plain_slots (t ∷ form) [] h = tt
  plain_slots (t ∷ form) (Word text quoted ∷ items) h = plain_slots form items h.1
  plain_slots (t ∷ form) (Slot c binds ∷ items) h = (plain_cat sig.cats c.0 t.text bare.plain.no_context (h.0).1, plain_slots form items h.1)
  plain_slots (t ∷ form) (Binder c ∷ items) h = absurd h.0

  pub judgment_fits : (text : JudgmentText) (j : Judgment) → IsBuiltJudgment sig portions text j → JudgmentFits sig j
  judgment_fits text j h = record {
    no_binder = no_binders text.form j.items (h.0).items;
    bind_nothing = bind_nothing text.form j.items (h.0).items;
    assumed = subst (λ (o : Option CatId). MatchOption o (Unit {0}) (λ c. IsContext sig c.0 × (Rattle.std.specs.Prelude.count_by (λ s. Rattle.std.specs.Prelude.◌==◌ s.cat c.0) (slots j.items) ≡ 1))) (sym (h.1).no_context) tt;
    no_other = subst (λ (o : Option CatId). AllByRecursion (λ (s : Place). IsPlain sig s.cat) (argument_slots o (slots j.items))) (sym (h.1).no_context) (plain_slots text.form j.items (h.0).items);
  }

-- a token stands for one item at most
module _ (sig : Signature) (apart : AreSpelledApart sig) (portions : List PlainPortion) where
  one_item : (t : PlainToken) (x y : Item) → IsItemOf sig portions t x → IsItemOf sig portions t y → x ≡ y
  one_item t (Word v p) (Word w q) h k =
      let text : v ≡ w = h.0 ∙ sym k.0 in
      let quoted : p ≡ q = h.1 ∙ sym k.1 in
      cc
  one_item t (Word v p) (Slot d bs) h k = absurd (none_spelled sig.cats d.0 t.text (h.2.word k.0).0 k.1)
  one_item t (Word v p) (Binder d) h k = absurd k
  one_item t (Slot c us) (Word w q) h k = absurd (none_spelled sig.cats c.0 t.text (k.2.word h.0).0 h.1)
  one_item t (Slot c us) (Slot d bs) h k =
      let number : c.0 ≡ d.0 = apart c.0 d.0 t.text h.1 k.1 in
      let cat : c ≡ d = λ i. record { 0 = number i } in
      let binds : us ≡ bs = h.2 ∙ sym k.2 in
      cc
  one_item t (Slot c us) (Binder d) h k = absurd k
  one_item t (Binder c) y h k = absurd h

  pub one_judgment : (text : JudgmentText) (x y : Judgment) → IsBuiltJudgment sig portions text x → IsBuiltJudgment sig portions text y → x ≡ y
  one_judgment text x y h k =
      let name : x.name ≡ y.name = (h.0).named ∙ sym (k.0).named in
      let items : x.items ≡ y.items = zip_unique (IsItemOf sig portions) one_item text.form x.items y.items (h.0).items (k.0).items in
      let ctx : x.ctx ≡ y.ctx = (h.1).no_context ∙ sym (k.1).no_context in
      λ i. record { name = name i; ctx = ctx i; items = items i }

-- the theories of portions over one signature that are bare
module _ (portions : List PlainPortion) where
  pub built_judgments : (th : Theory) → IsTheoryOf portions th → IsBareTheory th → AllZip (IsBuiltJudgment th.sig portions) (judgments_in portions) th.judgments
  built_judgments th h bare = zip_both (IsJudgmentOf th.sig portions) IsBareJudgment (judgments_in portions) th.judgments h.judgments bare.judgments

  pub same_judgments : (th other : Theory) → th.sig ≡ other.sig → IsTheoryOf portions th → IsBareTheory th → IsBareTheory other
      → AllZip (IsBuiltJudgment other.sig portions) (judgments_in portions) other.judgments → th.judgments ≡ other.judgments
  same_judgments th other e h bare like k =
      zip_unique (IsBuiltJudgment other.sig portions) (one_judgment other.sig like.apart portions) (judgments_in portions) th.judgments other.judgments
      (subst (λ (s : Signature). AllZip (IsBuiltJudgment s portions) (judgments_in portions) th.judgments) e (built_judgments th h bare)) k

  pub same_theories : (th other : Theory) → th.sig ≡ other.sig → IsTheoryOf portions th → IsBareTheory th → IsTheoryOf portions other → IsBareTheory other → th ≡ other
  same_theories th other e h bare k like =
      let judgments : th.judgments ≡ other.judgments = same_judgments th other e h bare like (built_judgments other k like) in
      let rules : th.rules ≡ other.rules = zip_unique (IsBlockRule other.sig other.judgments) (one_rule other.sig other.judgments like.sig like.apart like.judgments) (rules_in 0 portions) th.rules other.rules
      (subst (λ (s : Signature). AllZip (IsBlockRule s other.judgments) (rules_in 0 portions) th.rules) e
      (subst (λ js. AllZip (IsBlockRule th.sig js) (rules_in 0 portions) th.rules) judgments h.rules)) k.rules in
      λ i. record { sig = e i; judgments = judgments i; rules = rules i }

-- a result that is Ok
pub if_ok_map : {A E : Type 0} (P Q : A → Type 0) → ((a : A) → P a → Q a) → (r : Result A E) → IfOk r P → IfOk r Q
if_ok_map P Q f (Ok a) h = f a h
if_ok_map P Q f (Err e) h = tt

-- the theory of these judgments without rules, and what becomes of it
module _ (sig : Signature) (portions : List PlainPortion) (bare : IsBareSignature sig) (apart : AreSpelledApart sig) (js : List Judgment)
    (built : AllZip (IsBuiltJudgment sig portions) (judgments_in portions) js) where
  abbrev pub start : Theory
  start = record { sig = sig; judgments = js; rules = [] }

  pub start_bare : IsBareTheory start
  start_bare = record {
    sig = bare;
    apart = apart;
    judgments = zip_right (IsBuiltJudgment sig portions) IsBareJudgment (λ t j b. b.1) (judgments_in portions) js built;
  }

  pub all_fit : AllByRecursion (JudgmentFits sig) js
  all_fit = zip_right (IsBuiltJudgment sig portions) (JudgmentFits sig) (judgment_fits sig bare portions) (judgments_in portions) js built

  pub start_found : (th more : Theory) → th ≡ start → HasRulesOf th (rules_in 0 portions) more → IsSystem more → AreNamedApart a_judgment portions → AreNamedApart a_rule portions
      → (more.sig ≡ sig) × IsTheoryOf portions more × IsBareTheory more × ((other : Theory) → other.sig ≡ sig → IsTheoryOf portions other → IsBareTheory other → other ≡ more)
  start_found th more is h system judgment_names rule_names =
      let k : HasRulesOf start (rules_in 0 portions) more = subst (λ (t : Theory). HasRulesOf t (rules_in 0 portions) more) is h in
      let more_bare : IsBareTheory more = bare_more start more (rules_in 0 portions) start_bare k in
      let judgments : AllZip (IsJudgmentOf more.sig portions) (judgments_in portions) more.judgments =
      subst (λ (s : Signature). AllZip (IsJudgmentOf s portions) (judgments_in portions) more.judgments) (sym k.sig)
      (subst (AllZip (IsJudgmentOf sig portions) (judgments_in portions)) (sym k.judgments) (zip_map (IsBuiltJudgment sig portions) (IsJudgmentOf sig portions) (λ t j b. b.0) (judgments_in portions) js built)) in
      let rules : AllZip (IsBlockRule more.sig more.judgments) (rules_in 0 portions) more.rules =
      subst (λ (s : Signature). AllZip (IsBlockRule s more.judgments) (rules_in 0 portions) more.rules) (sym k.sig)
      (subst (λ l. AllZip (IsBlockRule sig l) (rules_in 0 portions) more.rules) (sym k.judgments) (subst (AllZip (IsBlockRule sig js) (rules_in 0 portions)) (sym k.rules) k.written)) in
      let whole : IsTheoryOf portions more = record { judgments = judgments; rules = rules; judgment_names = judgment_names; rule_names = rule_names; system = system } in
      (k.sig, whole, more_bare, λ other e o b. same_theories portions other more (e ∙ sym k.sig) o b whole more_bare)

  pub start_none : (th : Theory) → th ≡ start → ((rs : List Rule) → AllZip (IsBlockRule th.sig th.judgments) (rules_in 0 portions) rs → ⊥)
      → (other : Theory) → other.sig ≡ sig → IsTheoryOf portions other → IsBareTheory other → ⊥
  start_none th is none other e o b =
      let same : other.judgments ≡ js = same_judgments portions other start e o b start_bare built in
      let never : (rs : List Rule) → AllZip (IsBlockRule sig js) (rules_in 0 portions) rs → ⊥ = subst (λ (t : Theory). (rs : List Rule) → AllZip (IsBlockRule t.sig t.judgments) (rules_in 0 portions) rs → ⊥) is none in
      never other.rules
      (subst (λ (s : Signature). AllZip (IsBlockRule s js) (rules_in 0 portions) other.rules) e (subst (λ l. AllZip (IsBlockRule other.sig l) (rules_in 0 portions) other.rules) same o.rules))

-- where there are no such judgments there is no theory
pub no_judgments_none : (sig : Signature) (portions : List PlainPortion) → ((js : List Judgment) → AllZip (IsBuiltJudgment sig portions) (judgments_in portions) js → ⊥)
    → (th : Theory) → th.sig ≡ sig → IsTheoryOf portions th → IsBareTheory th → ⊥
no_judgments_none sig portions none th e h b =
    none th.judgments (subst (λ (s : Signature). AllZip (IsBuiltJudgment s portions) (judgments_in portions) th.judgments) e (built_judgments portions th h b))
