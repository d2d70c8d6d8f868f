-- The lines of a text, one after another.
use Rattle.std.proofs.Common.{◌≡◌, ◌↔◌, ◌≤◌, ◌+◌, ◌-◌, ℕ, take, drop, length-drop, length-append, length-take-le, append_assoc, Bool, true, false, IsTrue, List, [], ◌∷◌, ◌++◌, length, map, refl, ap, ◌∙◌, sym, subst, arith, Some, slice_get, inl, inr, true≢false, zero, suc}
use Rattle.std.specs.Prelude.{not}
use Rattle.std.proofs.Math.Seq.{drop-append_seam}
use Rattle.std.proofs.lemmas.List.{take_all, take-append-drop}
use Rattle.proof_lexer.specs.View.{token_view}
use Rattle.proof_lexer.specs.declared.token.Token.{Token as Lexed}
use Rattle.derivation_text.specs.Splitting.{IsFirstLine}
use Rattle.derivation_text.specs.Reader.{IsSeen}
use Rattle.derivation_text.specs.declared.reader.Seen.{Seen}
use Rattle.derivation_text.proofs.SplitLemmas.{begins}
use Rattle.std.specs.List.{AllByRecursion}
use Rattle.binding_terms.specs.declared.grammar.Cat.{Cat}
use Rattle.sy_base.specs.Tokens.{PlainToken, AreTokens}
use Rattle.rule_schemes.specs.Rules.{Theory, JudgmentValue, IsSystemSoFar}
use Rattle.rule_schemes.specs.Derivation.{Derivation, Derives, node, leaf, AllDerive as SubtreesDerive, IsNode}
use Rattle.rule_schemes.specs.Reading.{Token}
use Rattle.rule_schemes.specs.Said.{Want, want_context}
use Rattle.derivation_check.specs.Parts.{subtrees_of}
use Rattle.derivation_text.specs.Bare.{HasNoContexts}
use Rattle.derivation_text.specs.Ending.{HasNoLast}
use Rattle.derivation_text.specs.Forms.{is_own_name, is_name, is_among, APPLY, GIVES, CONTEXT}
use Rattle.derivation_text.specs.Found.{AllDerive, HasNoNamedTree}
use Rattle.derivation_text.specs.Lines.{Line, text_lines}
use Rattle.derivation_text.specs.Valid.{Around, Contents, Last, no_last, applied, given_out, nothing_around, NamesTree, IsMade, IsLast, AreValid, contexts_if, contexts_from, GivesContext, Begins, without_context, with_context, IsText}
use Rattle.derivation_text.specs.declared.derivs.Named.{Named}
use Rattle.derivation_text.proofs.NodeLemmas.{and_right}
use Rattle.derivation_text.proofs.CitedLemmas.{cited_derive}
use Rattle.derivation_text.proofs.RuleLemmas.{no_leaf}
use Rattle.derivation_text.proofs.LineLemmas.{says_parts, parts_tree, value_once}
use Rattle.derivation_text.proofs.NodeLemmas.{parts_once}
use Rattle.derivation_text.specs.Found.{IsPartsTree}
use Rattle.derivation_text.specs.Forms.{on_tokens}
use Rattle.sy_base.specs.TokenLaws.{TokensAreUnique}
use Rattle.rule_schemes.specs.Derivation.{Subtrees}
use Rattle.binding_terms.proofs.Lists.{all_push, cons_head, some_once}

-- from all lines one comes to these names and to the lines that are left
abbrev pub Reaches : Theory → List Line → List Named → List Line → Type 0
Reaches th all known rest = (c : Contents) → AreValid th nothing_around [] all c ↔ AreValid th nothing_around known rest c

pub not_own : (w : List ℕ) → is_among (CONTEXT ∷ APPLY ∷ GIVES ∷ []) w ≡ true → IsTrue (is_own_name w) → ⊥
unfolding is_own_name
not_own w among h = absurd (true≢false (sym (and_right (is_name w) (not (is_among (CONTEXT ∷ APPLY ∷ GIVES ∷ []) w)) h) ∙ ap not among))

pub names_not_last : (th : Theory) (known : List Named) (ts : List Token) (one : Named) (last : Last) → NamesTree th nothing_around known ts one → IsLast known ts last → ⊥
names_not_last th known ts one no_last h k = k
names_not_last th known ts one (applied args) h k =
    not_own APPLY refl (subst (λ (w : List ℕ). IsTrue (is_own_name w)) (ap (λ (t : Token). t.1) (cons_head (sym h.says.tokens_are ∙ k.0.tokens_are))) h.says.well_written.0)
names_not_last th known ts one (given_out names) h k =
    not_own GIVES refl (subst (λ (w : List ℕ). IsTrue (is_own_name w)) (ap (λ (t : Token). t.1) (cons_head (sym h.says.tokens_are ∙ k.0.tokens_are))) h.says.well_written.0)

module _ (th : Theory) (bare : HasNoContexts th) (so_far : IsSystemSoFar th) where
  made_node : (r : ℕ) (v : JudgmentValue) (ds : List Derivation) (d : Derivation) → IsMade th r v ds d → d ≡ node r v (subtrees_of ds)
  made_node r v ds (node q k es) h = λ i. node (h.0 i) (h.1 i) (h.2 i)
  made_node r v ds (leaf q k place) h = absurd (no_leaf th bare so_far r v place h.3)

  tree_once : (known : List Named) (form : List Token) (r : List ℕ) (rest : List Token) (d e : Derivation) → IsPartsTree th known form r rest d → IsPartsTree th known form r rest e → d ≡ e
  tree_once known form r rest d e a b =
      let number = some_once a.rule_is b.rule_is in
      let value = value_once th form a.value b.value a.has_value b.has_value in
      let trees = some_once a.cited b.cited in
      made_node a.number a.value a.trees d a.makes ∙ (λ i. node (number i) (value i) (subtrees_of (trees i))) ∙ sym (made_node b.number b.value b.trees e b.makes)

  pub names_once : (known : List Named) (ts : List Token) (a b : Named) → NamesTree th nothing_around known ts a → NamesTree th nothing_around known ts b → a ≡ b
  names_once known ts a b h k =
      let once = parts_once (says_parts ts b.name k.form k.rule k.cited k.says) (says_parts ts a.name h.form h.rule h.cited h.says) in
      let first = parts_tree th known a.name h.form h.rule h.cited a.tree h.says.well_written.3 h.valid in
      let second = parts_tree th known b.name k.form k.rule k.cited b.tree k.says.well_written.3 k.valid in
      let tree = tree_once known h.form h.rule (on_tokens h.cited) a.tree b.tree first
      (subst (λ (x : List Token). IsPartsTree th known x h.rule (on_tokens h.cited) b.tree) once.1
      (subst (λ (x : List ℕ). IsPartsTree th known k.form x (on_tokens h.cited) b.tree) once.2
      (subst (λ (x : List Token). IsPartsTree th known k.form k.rule x b.tree) once.3 second))) in
      λ i. record { name = sym once.0 i; tree = tree i }

  pub reaches_tree : (all lines rest : List Line) (n : ℕ) (ts : List Token) (known : List Named) (one : Named) → Reaches th all known lines → lines ≡ (n, ts) ∷ rest
      → NamesTree th nothing_around known ts one → Reaches th all (known ++ one ∷ []) rest
  reaches_tree all lines rest n ts known one reach e names c = (
    λ v. forth (subst (λ (x : List Line). AreValid th nothing_around known x c) e ((reach c).0 v)),
    λ v. (reach c).1 (subst (λ (x : List Line). AreValid th nothing_around known x c) (sym e) (inl (one, names, v))),
  ) where
    forth : AreValid th nothing_around known ((n, ts) ∷ rest) c → AreValid th nothing_around (known ++ one ∷ []) rest c
    forth (inl h) = subst (λ (x : Named). AreValid th nothing_around (known ++ x ∷ []) rest c) (names_once known ts h.0 one h.1 names) h.2
    forth (inr h) = absurd (names_not_last th known ts one c.last names h.0)

  subtrees_derive : (ds : List Derivation) → AllByRecursion (Derives th) ds → SubtreesDerive th (subtrees_of ds)
  subtrees_derive [] all = tt
  subtrees_derive (d ∷ ds) all = (all.0, subtrees_derive ds all.1)

  made_derives : (r : ℕ) (v : JudgmentValue) (ds : List Derivation) (d : Derivation) → AllByRecursion (Derives th) ds → IsMade th r v ds d → Derives th d
  made_derives r v ds (node q k es) all h =
      subst (Derives th) (λ i. node (sym h.0 i) (sym h.1 i) (sym h.2 i))
      (subst (λ (ss : Subtrees). IsNode th r v ss) h.2 h.3, subtrees_derive ds all)
  made_derives r v ds (leaf q k place) all h = absurd (no_leaf th bare so_far r v place h.3)

  pub names_derive : (known : List Named) (ts : List Token) (one : Named) → AllDerive th known → NamesTree th nothing_around known ts one → AllDerive th (known ++ one ∷ [])
  names_derive known ts one all h =
      all_push (λ x. Derives th x.tree) known one all
      (made_derives h.valid.number _ h.valid.trees one.tree (cited_derive th known h.cited h.valid.trees all h.valid.earlier) h.valid.makes)

pub reaches_last : (th : Theory) (all lines rest : List Line) (n : ℕ) (ts : List Token) (known : List Named) (last : Last) → Reaches th all known lines → lines ≡ (n, ts) ∷ rest → rest ≡ []
    → IsLast known ts last → AreValid th nothing_around [] all (record { named = known; last = last })
reaches_last th all lines rest n ts known last reach e none is_last =
    let c : Contents = record { named = known; last = last } in
    (reach c).1 (subst (λ (x : List Line). AreValid th nothing_around known x c) (sym e) (inr (is_last, none, refl)))

pub reaches_wrong : (th : Theory) (all lines rest : List Line) (n : ℕ) (ts : List Token) (known : List Named) → Reaches th all known lines → lines ≡ (n, ts) ∷ rest
    → HasNoNamedTree th known ts → HasNoLast known ts → (c : Contents) → AreValid th nothing_around [] all c → ⊥
reaches_wrong th all lines rest n ts known reach e no_tree no_end c v = at (subst (λ (x : List Line). AreValid th nothing_around known x c) e ((reach c).0 v)) where
  at : AreValid th nothing_around known ((n, ts) ∷ rest) c → ⊥
  at (inl h) = no_tree h.0 h.1
  at (inr h) = no_end c.last h.0

pub reaches_more : (th : Theory) (all lines rest : List Line) (n : ℕ) (ts : List Token) (known : List Named) → Reaches th all known lines → lines ≡ (n, ts) ∷ rest
    → HasNoNamedTree th known ts → (rest ≡ [] → ⊥) → (c : Contents) → AreValid th nothing_around [] all c → ⊥
reaches_more th all lines rest n ts known reach e no_tree some c v = at (subst (λ (x : List Line). AreValid th nothing_around known x c) e ((reach c).0 v)) where
  at : AreValid th nothing_around known ((n, ts) ∷ rest) c → ⊥
  at (inl h) = no_tree h.0 h.1
  at (inr h) = some h.1

-- no context line without categories of contexts
no_wants : (n : ℕ) (cats : List Cat) → AllByRecursion (λ cat. cat.context ≡ false) cats → contexts_from n cats ≡ []
no_wants n [] all = refl
no_wants n (cat ∷ cats) all = ap (λ (b : Bool). contexts_if b n (contexts_from (n + 1) cats)) all.0 ∙ no_wants (n + 1) cats all.1

nothing_at : {A : Type 0} (n : ℕ) (x : A) → slice_get {X = A} [] n ≡ Some x → ⊥
nothing_at zero x e = cc
nothing_at (suc n) x e = cc

pub no_context_line : (th : Theory) (ts : List Token) (around : Around) → HasNoContexts th → GivesContext th ts around → ⊥
no_context_line th ts around bare h =
    nothing_at h.number (want_context h.cat) (subst (λ (ws : List Want). slice_get ws h.number ≡ Some (want_context h.cat)) (no_wants 0 th.sig.cats bare.plain.sig.no_context) h.wanted)

pub text_of_lines : (th : Theory) (source : List ℕ) (tokens : List PlainToken) (c : Contents) → AreTokens source tokens → AreValid th nothing_around [] (text_lines tokens) c → IsText th source nothing_around c
text_of_lines th source tokens c are valid =
    record { tokens = tokens; are_tokens = are; lines = record { rest = text_lines tokens; begins = without_context (text_lines tokens); valid = valid } }

pub lines_of : (th : Theory) → HasNoContexts th → (lines rest : List Line) (around : Around) (c : Contents) → Begins th lines around rest → AreValid th around [] rest c
    → (around ≡ nothing_around) × AreValid th nothing_around [] lines c
lines_of th bare lines rest around c (without_context same) v = (refl, v)
lines_of th bare lines rest around c (with_context line other more gives) v = absurd (no_context_line th line.1 other bare gives)

pub lines_of_text : (th : Theory) → HasNoContexts th → TokensAreUnique → (source : List ℕ) (tokens : List PlainToken) (around : Around) (c : Contents) → AreTokens source tokens → IsText th source around c
    → (around ≡ nothing_around) × AreValid th nothing_around [] (text_lines tokens) c
lines_of_text th bare unique source tokens around c are text =
    let at = lines_of th bare (text_lines text.tokens) text.lines.rest around c text.lines.begins text.lines.valid in
    (at.0, subst (λ (ts : List PlainToken). AreValid th nothing_around [] (text_lines ts) c) (unique source text.tokens tokens text.are_tokens are) at.1)

rest_is : (tokens : List Lexed) (at : ℕ) → take (length tokens - at) (drop at tokens) ≡ drop at tokens
rest_is tokens at = take_all (length tokens - at) (drop at tokens) (omega (arith, length-drop at tokens))

pub lines_at : (tokens : List Lexed) (at : ℕ) (line : List Token) (more : List Lexed) → IsFirstLine (map token_view (take (length tokens - at) (drop at tokens))) line (map token_view more)
    → (n : ℕ) × (text_lines (map token_view (drop at tokens)) ≡ (n, line) ∷ text_lines (map token_view more))
lines_at tokens at line more h = (h.0, ap (λ (ts : List Lexed). text_lines (map token_view ts)) (sym (rest_is tokens at)) ∙ h.1)

pub next_within : (tokens line more : List Lexed) (at : ℕ) → at ≤ length tokens → take (length tokens - at) (drop at tokens) ≡ line ++ more → at + length line ≤ length tokens
next_within tokens line more at within e =
    let size : length (drop at tokens) ≡ length line + length more = ap length (sym (rest_is tokens at) ∙ e) ∙ length-append line more in
    omega (arith, length-drop at tokens)

pub next_at : (tokens line more : List Lexed) (at : ℕ) → at ≤ length tokens → take (length tokens - at) (drop at tokens) ≡ line ++ more → drop (at + length line) tokens ≡ more
next_at tokens line more at within e =
    let whole : tokens ≡ (take at tokens ++ line) ++ more =
    sym (take-append-drop at tokens) ∙ ap (λ (ts : List Lexed). take at tokens ++ ts) (sym (rest_is tokens at) ∙ e) ∙ sym (append_assoc (take at tokens) line more) in
    let size : at + length line ≡ length (take at tokens ++ line) = omega (arith, length-append (take at tokens) line, length-take-le at tokens within) in
    ap (λ (n : ℕ). drop n tokens) size ∙ ap (drop (length (take at tokens ++ line))) whole ∙ drop-append_seam (take at tokens ++ line) more

pub none_lines : (ts : List Lexed) → length ts ≡ 0 → text_lines (map token_view ts) ≡ []
none_lines [] e = refl
none_lines (t ∷ ts) e = absurd (omega arith)

pub some_lines : (ts : List Lexed) → (length ts ≡ 0 → ⊥) → text_lines (map token_view ts) ≡ [] → ⊥
some_lines [] some e = some refl
some_lines (t ∷ ts) some e =
    let first = begins (token_view t) (map token_view ts) in
    let clash : [] ≡ first.line ∷ first.rest = sym e ∙ first.lines_are in
    cc

pub seen_as : (th : Theory) (known slice : List Named) (ts : List Token) (s seen : Seen) → slice ≡ known → IsSeen th slice ts s → s ≡ seen → IsSeen th known ts seen
seen_as th known slice ts s seen e h f = subst (IsSeen th known ts) f (subst (λ (ks : List Named). IsSeen th ks ts s) e h)
