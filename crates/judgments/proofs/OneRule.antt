-- Rules over bare judgments: the one rule for which a written one stands.
use Rattle.std.proofs.Common.{◌≡◌, ◌⊎◌, ◌+◌, ℕ, suc, List, [], ◌∷◌, ◌++◌, length, map, inl, inr, ap, ◌∙◌, sym, subst, arith, refl, Some, slice_get}
use Rattle.std.specs.List.{AllByRecursion, AllZip}
use Rattle.binding_terms.specs.Numbered.{AnyByRecursion}
use Rattle.binding_terms.specs.Signature.{Signature}
use Rattle.scheme_terms.specs.Forms.{Names, SchemeContext}
use Rattle.scheme_terms.specs.SchemeScope.{AreDifferentNames}
use Rattle.scheme_terms.specs.declared.scheme.MetaDecl.{MetaDecl}
use Rattle.scheme_terms.specs.declared.scheme.Root.TheVariants.{Closed}
use Rattle.rule_schemes.specs.NewNames.{AreInOrder}
use Rattle.rule_schemes.specs.Reading.{Token, IsCategoryWord, AreSpelledApart}
use Rattle.rule_schemes.specs.Rules.{JudgmentScheme, Rule, rule_root}
use Rattle.rule_schemes.specs.Statement.{OccursInJudgment}
use Rattle.rule_schemes.specs.declared.rule.Judgment.{Judgment}
use Rattle.user_grammar.specs.Bare.{IsBareSignature}
use Rattle.judgments.specs.Bare.{IsBareJudgment}
use Rattle.judgments.specs.Collected.{IsAmong, StandsIn, IsCollected, AreGathered, AreCollected}
use Rattle.judgments.specs.Laws.{AreBareNames}
use Rattle.judgments.specs.Named.{AreNamesOf}
use Rattle.judgments.specs.Standing.{IsRead, AreReadOf, AreUnreadOf}
use Rattle.judgments.specs.Texts.{RuleText, rule_forms}
use Rattle.judgments.specs.Theory.{IsBlockRule}
use Rattle.judgments.specs.Written.{ReadsOnlyAs, names_over, OccursInRule}
use Rattle.judgments.proofs.BareForms.{no_brackets_read, names_from, gathered_from}
use Rattle.judgments.proofs.KeptNames.{among_place, different_append, kept_among, among_kept, kept_each, kept_differ, kept_order, read_any, any_read, any_at}
use Rattle.judgments.proofs.OneOrder.{same_names, same_decls, one_place}
use Rattle.judgments.proofs.Reordered.{IsSameOver, reorder, reorder_all, all_there, all_back, all_equal, same_gathered}
use Rattle.judgments.proofs.RuleLemmas.{closed_names, bare_names, numbered, one_reading, no_context_read, over_closed}
use Rattle.judgments.proofs.StatementLemmas.{numbered_all, place_front, place_back, among_at, different_front}
use Rattle.judgments.proofs.WordsOfForms.{joined}
use Rattle.binding_terms.proofs.Lists.{all_append, any_back, any_front, any_split, zip_append, zip_last, zip_unique}

pub among_split : (xs ys : List MetaDecl) (w : List ℕ) → IsAmong w (xs ++ ys) → IsAmong w xs ⊎ IsAmong w ys
among_split xs ys w a = any_split (λ (d : MetaDecl). d.name ≡ w) xs ys a

pub among_front : (xs ys : List MetaDecl) (w : List ℕ) → IsAmong w xs → IsAmong w (xs ++ ys)
among_front xs ys w a = any_front (λ (d : MetaDecl). d.name ≡ w) xs ys a

pub among_back : (xs ys : List MetaDecl) (w : List ℕ) → IsAmong w ys → IsAmong w (xs ++ ys)
among_back xs ys w a = any_back (λ (d : MetaDecl). d.name ≡ w) xs ys a

pub all_front : (P : MetaDecl → Type 0) (xs ys : List MetaDecl) → AllByRecursion P (xs ++ ys) → AllByRecursion P xs
all_front P [] ys h = tt
all_front P (x ∷ xs) ys h = (h.0, all_front P xs ys h.1)

-- a judgment of a list and its last one
in_rule : (rule : Rule) (m : ℕ) → AnyByRecursion (OccursInJudgment m) rule.premises ⊎ AnyByRecursion (OccursInJudgment m) (rule.conclusion ∷ []) → OccursInRule m rule
in_rule rule m (inl a) = inl a
in_rule rule m (inr (inl a)) = inr a
in_rule rule m (inr (inr never)) = absurd never

from_rule : (rule : Rule) (m : ℕ) → OccursInRule m rule → AnyByRecursion (OccursInJudgment m) (rule.premises ++ rule.conclusion ∷ [])
from_rule rule m (inl a) = any_front (OccursInJudgment m) rule.premises (rule.conclusion ∷ []) a
from_rule rule m (inr a) = any_back (OccursInJudgment m) rule.premises (rule.conclusion ∷ []) (inl a)

-- names that are read, and then those that are not
pub record AreSplit (metas : List MetaDecl) (zs : List JudgmentScheme) (used unread : List MetaDecl) : Type 0 where
  pub read : (w : List ℕ) → IsAmong w used → IsRead metas zs w
  pub not_read : (w : List ℕ) → IsAmong w unread → IsRead metas zs w → ⊥

-- what is read stands among them
pub read_among : (metas : List MetaDecl) (zs : List JudgmentScheme) (used unread : List MetaDecl) → AreSplit metas zs used unread → metas ≡ used ++ unread → (w : List ℕ) → IsRead metas zs w → IsAmong w used
read_among metas zs used unread h e w r = which (among_split used unread w (subst (IsAmong w) e (among_at metas k.0 k.1 w k.2 k.3)))
  where
    k : (m : ℕ) × (d : MetaDecl) × (slice_get metas m ≡ Some d) × (d.name ≡ w) × AnyByRecursion (OccursInJudgment m) zs
    k = read_any metas zs w r

    which : IsAmong w used ⊎ IsAmong w unread → IsAmong w used
    which (inl a) = a
    which (inr a) = absurd (h.not_read w a r)

-- a name of the front stands there
pub in_front : (front more : List MetaDecl) → AreDifferentNames (map (λ (d : MetaDecl). d.name) (front ++ more)) → (m : ℕ) (d : MetaDecl) → slice_get (front ++ more) m ≡ Some d
    → IsAmong d.name front → slice_get front m ≡ Some d
in_front front more differ m d g among =
    let p = among_place front d.name among in
    let same : p.0 ≡ m = one_place (front ++ more) p.0 m p.1 d differ (place_front front more p.0 p.1 p.2) g p.3 in
    let decls : Some p.1 ≡ Some d = sym (place_front front more p.0 p.1 p.2) ∙ ap (slice_get (front ++ more)) same ∙ g in
    ap (slice_get front) (sym same) ∙ p.2 ∙ decls

-- the last elements of two lists
last_parts : (ps qs : List JudgmentScheme) (p q : JudgmentScheme) → ps ++ p ∷ [] ≡ qs ++ q ∷ [] → (ps ≡ qs) × (p ≡ q)
last_parts [] [] p q e = (refl, (let same : p ≡ q = cc in same))
last_parts [] (z ∷ []) p q e = (let never : [] ≡ q ∷ [] = cc in cc)
last_parts [] (z ∷ (u ∷ qs)) p q e = (let never : [] ≡ u ∷ (qs ++ q ∷ []) = cc in cc)
last_parts (z ∷ []) [] p q e = (let never : p ∷ [] ≡ [] = cc in cc)
last_parts (z ∷ (u ∷ ps)) [] p q e = (let never : u ∷ (ps ++ p ∷ []) ≡ [] = cc in cc)
last_parts (u ∷ ps) (v ∷ qs) p q e =
    let first : u ≡ v = cc in
    let tail : ps ++ p ∷ [] ≡ qs ++ q ∷ [] = cc in
    let rest = last_parts ps qs p q tail in
    ((λ i. first i ∷ rest.0 i), rest.1)

module _ (sig : Signature) (js : List Judgment) (bare : IsBareSignature sig) (apart : AreSpelledApart sig) (closed : AllByRecursion IsBareJudgment js) (text : RuleText) where
  abbrev tokens : List Token
  tokens = joined (rule_forms text)

  abbrev Reads : List MetaDecl → List Token → JudgmentScheme → Type 0
  Reads metas = ReadsOnlyAs sig js (closed_names metas)

  -- what a rule says of its metavariables and forms
  pub record Says (rule : Rule) : Type 0 where
    pub unread : List MetaDecl
    pub gathered : AreGathered sig.cats (joined (rule_forms text)) (rule.metas ++ unread)
    pub in_order : AreInOrder (joined (rule_forms text)) rule.metas
    pub split : AreSplit (rule.metas ++ unread) (rule.premises ++ rule.conclusion ∷ []) rule.metas unread
    pub premises : AllZip (ReadsOnlyAs sig js (closed_names (rule.metas ++ unread))) text.premises rule.premises
    pub conclusion : ReadsOnlyAs sig js (closed_names (rule.metas ++ unread)) text.conclusion rule.conclusion

  plain_metas : (metas : List MetaDecl) → AreGathered sig.cats tokens metas → AllByRecursion (λ (d : MetaDecl). d.params ≡ []) metas
  plain_metas metas h = bare_names sig.cats tokens metas h.each

  pub plain_for : (metas : List MetaDecl) → AreGathered sig.cats tokens metas → AreBareNames (closed_names metas)
  plain_for metas h = record { knowns = refl; parameters = plain_metas metas h }

  pub rule_says : (rule : Rule) → IsBlockRule sig js text rule → Says rule
  rule_says rule h =
      let w = h.written in
      let k = rule.conclusion.judgment in
      let forms = rule.premises ++ rule.conclusion ∷ [] in
      let all = rule.metas ++ w.unread in
      let gathered = gathered_from sig bare (rule_forms text) all w.names in
      let same : names_over (rule_root (record { sig = sig; judgments = js; rules = [] }) k) rule.metas w.unread ≡ closed_names all =
      λ i. record { root = over_closed sig js bare apart closed k i; metas = all; knowns = [] } in
      let parts = zip_last (Reads all) text.premises text.conclusion rule.premises rule.conclusion (subst (λ (n : Names). AllZip (ReadsOnlyAs sig js n) (rule_forms text) forms) same w.reads) in
      record {
        unread = w.unread;
        gathered = gathered;
        in_order = w.in_order;
        split = record {
          read = λ v a. (let p = among_place rule.metas v a in let zero_more : 0 + p.0 ≡ p.0 = omega arith in
              let o = subst (λ m. OccursInRule m rule) zero_more (numbered_all (λ m. OccursInRule m rule) rule.metas 0 w.used p.0 p.1 p.2) in
              subst (IsRead all forms) p.3 (any_read all forms p.0 p.1 (place_front rule.metas w.unread p.0 p.1 p.2) (from_rule rule p.0 o)));
          not_read = λ v a r. (let p = among_place w.unread v a in let m = length rule.metas + p.0 in
              let o = any_at all forms m p.1 gathered.differ (place_back rule.metas w.unread p.0 p.1 p.2) (subst (IsRead all forms) (sym p.3) r) in
              numbered_all (λ m. OccursInRule m rule → ⊥) w.unread (length rule.metas) w.unused p.0 p.1 p.2 (in_rule rule m (any_split (OccursInJudgment m) rule.premises (rule.conclusion ∷ []) o)));
        };
        premises = parts.0;
        conclusion = parts.1;
      }

  -- the rule of these metavariables and judgments, where the others are not read
  pub rule_stands : (used unread : List MetaDecl) (ps : List JudgmentScheme) (j : JudgmentScheme) → AreGathered sig.cats (joined (rule_forms text)) (used ++ unread)
      → AreInOrder (joined (rule_forms text)) used → AreSplit (used ++ unread) (ps ++ j ∷ []) used unread → AllZip (ReadsOnlyAs sig js (closed_names (used ++ unread))) text.premises ps
      → ReadsOnlyAs sig js (closed_names (used ++ unread)) text.conclusion j → suc j.judgment ≡ text.block
      → IsBlockRule sig js text (record { name = text.name; metas = used; premises = ps; conclusion = j })
  rule_stands used unread ps j h order split premises conclusion block =
      let all = used ++ unread in
      let made : Rule = record { name = text.name; metas = used; premises = ps; conclusion = j } in
      let reads : AllZip (Reads all) (rule_forms text) (ps ++ j ∷ []) = zip_append (Reads all) text.premises (text.conclusion ∷ []) ps (j ∷ []) premises (conclusion, tt) in
      let names : AreNamesOf sig (rule_forms text) all = names_from sig bare (rule_forms text) all (no_brackets_read sig js bare closed (closed_names all) (plain_for all h) (rule_forms text) (ps ++ j ∷ []) reads) h in
      let root : j.context.root ≡ Closed = ap (λ (c : SchemeContext). c.root) (no_context_read sig js bare apart closed (closed_names all) text.conclusion j conclusion) in
      let same : closed_names all ≡ names_over (rule_root (record { sig = sig; judgments = js; rules = [] }) j.judgment) used unread =
      λ i. record { root = sym (over_closed sig js bare apart closed j.judgment) i; metas = all; knowns = [] } in
      record {
        block = block;
        written = record {
          named = refl;
          root_is = root ∙ sym (over_closed sig js bare apart closed j.judgment);
          unread = unread;
          names = names;
          in_order = order;
          used = numbered (λ m. OccursInRule m made) used 0 (λ m d g. (let zero_more : m ≡ 0 + m = omega arith in
              subst (λ n. OccursInRule n made) zero_more
              (in_rule made m (any_split (OccursInJudgment m) ps (j ∷ [])
              (any_at all (ps ++ j ∷ []) m d h.differ (place_front used unread m d g) (split.read d.name (among_at used m d d.name g refl)))))));
          unused = numbered (λ m. OccursInRule m made → ⊥) unread (length used) (λ m d g o.
              split.not_read d.name (among_at unread m d d.name g refl) (any_read all (ps ++ j ∷ []) (length used + m) d (place_back used unread m d g) (from_rule made (length used + m) o)));
          reads = subst (λ (n : Names). AllZip (ReadsOnlyAs sig js n) (rule_forms text) (ps ++ j ∷ [])) same reads;
        };
      }

  -- what a list of judgments reads as over other names
  pub forms_moved : (metas others : List MetaDecl) → AreGathered sig.cats (joined (rule_forms text)) metas → AreGathered sig.cats (joined (rule_forms text)) others
      → (ps : List JudgmentScheme) (j : JudgmentScheme) → AllZip (ReadsOnlyAs sig js (closed_names metas)) text.premises ps → ReadsOnlyAs sig js (closed_names metas) text.conclusion j
      → (qs : List JudgmentScheme) × (i : JudgmentScheme) × AllZip (ReadsOnlyAs sig js (closed_names others)) text.premises qs × ReadsOnlyAs sig js (closed_names others) text.conclusion i
      × (i.judgment ≡ j.judgment) × AllZip (IsSameOver metas others) (ps ++ j ∷ []) (qs ++ i ∷ [])
  forms_moved metas others h k ps j premises conclusion =
      let has = same_gathered sig apart tokens metas others h k in
      let had = same_gathered sig apart tokens others metas k h in
      let all = reorder_all sig js bare apart closed metas others h.differ k.differ (plain_metas metas h) has had text.premises ps premises in
      let last = reorder sig js bare apart closed metas others h.differ k.differ (plain_metas metas h) has had text.conclusion j conclusion in
      (all.0, last.0, all.1, last.1, (last.2).judgment, zip_append (IsSameOver metas others) ps (j ∷ []) all.0 (last.0 ∷ []) all.2 (last.2, tt))

  -- the names that are read in judgments over one list are read in the same judgments over another
  split_moved : (metas others : List MetaDecl) (xs ys : List JudgmentScheme) (used unread : List MetaDecl) → AllZip (IsSameOver metas others) xs ys → AreSplit metas xs used unread → AreSplit others ys used unread
  split_moved metas others xs ys used unread same h = record {
    read = λ w a. all_there metas others xs ys same w (h.read w a);
    not_read = λ w a r. h.not_read w a (all_back metas others xs ys same w r);
  }

  -- those that are read, and then the others, are the names again
  module _ (metas used unread : List MetaDecl) (zs : List JudgmentScheme) (h : AreCollected sig.cats (joined (rule_forms text)) metas) (read : AreReadOf metas zs metas used) (not_read : AreUnreadOf metas zs metas unread) where
    abbrev R : List ℕ → Type 0
    R = IsRead metas zs

    abbrev N : List ℕ → Type 0
    N w = IsRead metas zs w → ⊥

    pub sorted_order : AreInOrder (joined (rule_forms text)) used
    sorted_order = kept_order R N tokens metas used read h.differ h.in_order

    pub sorted_split : AreSplit metas zs used unread
    sorted_split = record {
      read = λ w a. (kept_among R N metas used w read a).1;
      not_read = λ w a. (kept_among N R metas unread w not_read a).1;
    }

    sorted_all : (w : List ℕ) (c : ℕ) → StandsIn w tokens → IsCategoryWord sig.cats c w → IsAmong w (used ++ unread)
    sorted_all w c s spelled = which (among_kept R N metas used w read a) (among_kept N R metas unread w not_read a)
      where
        a : IsAmong w metas
        a = h.all w c s spelled

        which : IsAmong w used ⊎ N w → IsAmong w unread ⊎ R w → IsAmong w (used ++ unread)
        which (inl b) k = among_front used unread w b
        which (inr n) (inl b) = among_back used unread w b
        which (inr n) (inr r) = absurd (n r)

    pub sorted_gathered : AreGathered sig.cats (joined (rule_forms text)) (used ++ unread)
    sorted_gathered = record {
      each = all_append (IsCollected sig.cats tokens) used unread (kept_each R N (IsCollected sig.cats tokens) metas used read h.each)
          (kept_each N R (IsCollected sig.cats tokens) metas unread not_read h.each);
      all = sorted_all;
      differ = different_append used unread (kept_differ R N metas used read h.differ) (kept_differ N R metas unread not_read h.differ)
          (λ w a b. (kept_among N R metas unread w not_read b).1 (kept_among R N metas used w read a).1);
    }

  pub as_gathered : (metas : List MetaDecl) → AreCollected sig.cats (joined (rule_forms text)) metas → AreGathered sig.cats (joined (rule_forms text)) metas
  as_gathered metas h = record { each = h.each; all = h.all; differ = h.differ }

  -- the rule that is found: read over the names in the order of the text, and again with those that are not read at the end
  pub rule_found : (metas used unread : List MetaDecl) (ps : List JudgmentScheme) (j : JudgmentScheme) → AreCollected sig.cats (joined (rule_forms text)) metas
      → AllZip (ReadsOnlyAs sig js (closed_names metas)) text.premises ps → ReadsOnlyAs sig js (closed_names metas) text.conclusion j → suc j.judgment ≡ text.block
      → AreReadOf metas (ps ++ j ∷ []) metas used → AreUnreadOf metas (ps ++ j ∷ []) metas unread
      → (qs : List JudgmentScheme) (i : JudgmentScheme) → AllZip (ReadsOnlyAs sig js (closed_names (used ++ unread))) text.premises qs
      → ReadsOnlyAs sig js (closed_names (used ++ unread)) text.conclusion i → IsBlockRule sig js text (record { name = text.name; metas = used; premises = qs; conclusion = i })
  rule_found metas used unread ps j h premises conclusion block read not_read qs i premises_again conclusion_again =
      let zs = ps ++ j ∷ [] in
      let all = used ++ unread in
      let gathered = sorted_gathered metas used unread zs h read not_read in
      let moved = forms_moved metas all (as_gathered metas h) gathered ps j premises conclusion in
      let same_premises : moved.0 ≡ qs = zip_unique (Reads all) (one_reading sig js (closed_names all)) text.premises moved.0 qs moved.2 premises_again in
      let same_conclusion : moved.1 ≡ i = one_reading sig js (closed_names all) text.conclusion moved.1 i moved.3 conclusion_again in
      let split = split_moved metas all zs (moved.0 ++ moved.1 ∷ []) used unread moved.5 (sorted_split metas used unread zs h read not_read) in
      let same : moved.0 ++ moved.1 ∷ [] ≡ qs ++ i ∷ [] = λ k. same_premises k ++ same_conclusion k ∷ [] in
      let number : i.judgment ≡ j.judgment = ap (λ (x : JudgmentScheme). x.judgment) (sym same_conclusion) ∙ moved.4 in
      rule_stands used unread qs i gathered (sorted_order metas used unread zs h read not_read) (subst (λ (l : List JudgmentScheme). AreSplit all l used unread) same split) premises_again conclusion_again
      (ap suc number ∙ block)

  -- a metavariable that stands in the rule is one of its own
  pub kept_of : (rule : Rule) (says : Says rule) (m : ℕ) (d : MetaDecl) → slice_get (rule.metas ++ says.unread) m ≡ Some d
      → AnyByRecursion (OccursInJudgment m) (rule.premises ++ rule.conclusion ∷ []) → slice_get rule.metas m ≡ Some d
  kept_of rule says m d g o =
      let all = rule.metas ++ says.unread in
      let zs = rule.premises ++ rule.conclusion ∷ [] in
      in_front rule.metas says.unread says.gathered.differ m d g (read_among all zs rule.metas says.unread says.split refl d.name (any_read all zs m d g o))

  -- a written rule stands for one rule at most
  pub one_rule : (x y : Rule) → IsBlockRule sig js text x → IsBlockRule sig js text y → x ≡ y
  one_rule x y h k =
      let a = rule_says x h in
      let b = rule_says y k in
      let xs = x.metas ++ a.unread in
      let ys = y.metas ++ b.unread in
      let xz = x.premises ++ x.conclusion ∷ [] in
      let yz = y.premises ++ y.conclusion ∷ [] in
      let moved = forms_moved ys xs b.gathered a.gathered y.premises y.conclusion b.premises b.conclusion in
      let same_premises : moved.0 ≡ x.premises = zip_unique (Reads xs) (one_reading sig js (closed_names xs)) text.premises moved.0 x.premises moved.2 a.premises in
      let same_conclusion : moved.1 ≡ x.conclusion = one_reading sig js (closed_names xs) text.conclusion moved.1 x.conclusion moved.3 a.conclusion in
      let both : moved.0 ++ moved.1 ∷ [] ≡ xz = λ i. same_premises i ++ same_conclusion i ∷ [] in
      let same : AllZip (IsSameOver ys xs) yz xz = subst (λ (l : List JudgmentScheme). AllZip (IsSameOver ys xs) yz l) both moved.5 in
      let forward : (w : List ℕ) → IsAmong w x.metas → IsAmong w y.metas = λ w m. read_among ys yz y.metas b.unread b.split refl w (all_back ys xs yz xz same w (a.split.read w m)) in
      let backward : (w : List ℕ) → IsAmong w y.metas → IsAmong w x.metas = λ w m. read_among xs xz x.metas a.unread a.split refl w (all_there ys xs yz xz same w (b.split.read w m)) in
      let x_differ = different_front x.metas a.unread a.gathered.differ in
      let y_differ = different_front y.metas b.unread b.gathered.differ in
      let metas : x.metas ≡ y.metas = same_decls sig apart tokens x.metas y.metas (all_front (IsCollected sig.cats tokens) x.metas a.unread a.gathered.each)
      (all_front (IsCollected sig.cats tokens) y.metas b.unread b.gathered.each) (same_names tokens x.metas y.metas x_differ y_differ a.in_order b.in_order forward backward) in
      let forms : xz ≡ yz = all_equal ys xs yz xz same (λ m d g o. place_front x.metas a.unread m d (ap (λ (l : List MetaDecl). slice_get l m) metas ∙ kept_of y b m d g o)) in
      let parts = last_parts x.premises y.premises x.conclusion y.conclusion forms in
      let name : x.name ≡ y.name = (h.written).named ∙ sym (k.written).named in
      λ i. record { name = name i; metas = metas i; premises = parts.0 i; conclusion = parts.1 i }
