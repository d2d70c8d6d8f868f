-- What brackets tell, and the first telling occurrence of a name.
use Rattle.std.proofs.Common.{◌≡◌, ◌≢◌, ◌⊎◌, ◌↔◌, ℕ, ◌+◌, ◌-◌, ◌<◌, ◌≤◌, Bool, true, false, IsTrue, List, [], ◌∷◌, ◌++◌, length, map, take, drop, get_or, inl, inr, refl, ap, ◌∙◌, sym, subst, arith, append-nil, append_assoc, Option, Some, None, MatchOption}
use Rattle.std.specs.Prelude.{slice_index_or}
use Rattle.std.specs.List.{AllByRecursion}
use Rattle.std.proofs.lemmas.List.{drop_more, take_rest, take_all, map-append}
use Rattle.binding_terms.specs.Signature.{Signature}
use Rattle.binding_terms.specs.declared.grammar.CatId.{CatId}
use Rattle.rule_schemes.specs.Reading.{Token, word, punctuation, IsVariableWord, IsVariableOfFirst}
use Rattle.rule_schemes.specs.NewNames.{TellsBrackets, at_end, no_bracket, open_bracket, TellsWords, comma, close_bracket, AreDifferentWords, IsTelling, FirstTells}
use Rattle.rule_schemes.proofs.Firsts.{IsFirst_once}
use Rattle.notation_parser.specs.Candidates.{StandsIn, TellsBehind, IsToldAfter}
use Rattle.notation_parser.specs.declared.parameters.Told.{Told}

-- one mark is not another
marks_apart : {X : Type 0} → ◌≡◌ {A = Token} (punctuation 44) (punctuation 93) → X
marks_apart e = absurd (omega (arith, ap (λ (t : Token). slice_index_or t.1 0 0) e))

-- what stands at an open bracket
pub opened : (sig : Signature) (t : Token) (ts : List Token) (ws : List (List ℕ)) (cs : List ℕ) → t ≡ punctuation 91 → TellsWords sig ts ws cs → TellsBrackets sig (t ∷ ts) ws cs
opened sig t ts ws cs e h = subst (λ u. TellsBrackets sig (u ∷ ts) ws cs) (sym e) (open_bracket h)

inside : {sig : Signature} {tokens : List Token} {ws : List (List ℕ)} {cs : List ℕ} → TellsBrackets sig tokens ws cs → (t : Token) (ts : List Token) → tokens ≡ t ∷ ts → t ≡ punctuation 91 → TellsWords sig ts ws cs
inside at_end t ts e is = absurd (omega (arith, ap length e))
inside (no_bracket {t = u} {rest = rest} ne) t ts e is = absurd (let first : u ≡ t = cc in ne (first ∙ is))
inside {sig} {tokens} {ws} {cs} (open_bracket {rest = rest} h) t ts e is = let same : rest ≡ ts = cc in subst (λ us. TellsWords sig us ws cs) same h

-- words of brackets begin with a variable word
first_word : {sig : Signature} {tokens : List Token} {ws : List (List ℕ)} {cs : List ℕ} → TellsWords sig tokens ws cs → (t : Token) (ts : List Token) → tokens ≡ t ∷ ts
    → (w : List ℕ) × (c : ℕ) × (vs : List (List ℕ)) × (ds : List ℕ) × (t ≡ word w) × (ws ≡ w ∷ vs) × (cs ≡ c ∷ ds) × IsVariableOfFirst sig c w × TellsBehind sig ts vs ds
first_word {sig} (comma {w = w} {c = c} {rest = rest} {ws = ws} {cs = cs} v h) t ts e =
    let first : word w ≡ t = cc in
    let behind : punctuation 44 ∷ rest ≡ ts = cc in
    (w, c, ws, cs, sym first, refl, refl, v, subst (λ us. TellsBehind sig us ws cs) behind (inl (refl, h)))
first_word {sig} (close_bracket {w = w} {c = c} {rest = rest} {ws = ws} {cs = cs} v h) t ts e =
    let first : word w ≡ t = cc in
    let behind : punctuation 93 ∷ rest ≡ ts = cc in
    (w, c, ws, cs, sym first, refl, refl, v, subst (λ us. TellsBehind sig us ws cs) behind (inr (refl, h)))

-- a variable word and what stands behind it
pub a_word : (sig : Signature) (w : List ℕ) (c : ℕ) (ts : List Token) (ws : List (List ℕ)) (cs : List ℕ) → IsVariableOfFirst sig c w → TellsBehind sig ts ws cs → TellsWords sig (word w ∷ ts) (w ∷ ws) (c ∷ cs)
a_word sig w c [] ws cs v h = absurd h
a_word sig w c (u ∷ ts) ws cs v (inl h) = subst (λ u. TellsWords sig (word w ∷ (u ∷ ts)) (w ∷ ws) (c ∷ cs)) (sym h.0) (comma v h.1)
a_word sig w c (u ∷ ts) ws cs v (inr h) = subst (λ u. TellsWords sig (word w ∷ (u ∷ ts)) (w ∷ ws) (c ∷ cs)) (sym h.0) (close_bracket v h.1)

-- brackets tell one thing
mutual
  pub brackets_once : {sig : Signature} {ts : List Token} {ws : List (List ℕ)} {cs : List ℕ} → TellsBrackets sig ts ws cs → (vs : List (List ℕ)) (ds : List ℕ) → TellsBrackets sig ts vs ds
      → (ws ≡ vs) × (cs ≡ ds)
  brackets_once at_end vs ds k = nothing k
    where
      nothing : {sig : Signature} {vs : List (List ℕ)} {ds : List ℕ} → TellsBrackets sig [] vs ds → ([] ≡ vs) × ([] ≡ ds)
      nothing at_end = (refl, refl)
  brackets_once (no_bracket {t = t} {rest = rest} ne) vs ds k = none k t rest refl ne
    where
      none : {sig : Signature} {tokens : List Token} {vs : List (List ℕ)} {ds : List ℕ} → TellsBrackets sig tokens vs ds → (t : Token) (rest : List Token) → tokens ≡ t ∷ rest → t ≢ punctuation 91
          → ([] ≡ vs) × ([] ≡ ds)
      none at_end t rest e ne = (refl, refl)
      none (no_bracket other) t rest e ne = (refl, refl)
      none (open_bracket h) t rest e ne = absurd (let first : punctuation 91 ≡ t = cc in ne (sym first))
  brackets_once (open_bracket {rest = rest} h) vs ds k = words_once h vs ds (inside k (punctuation 91) rest refl refl)

  pub words_once : {sig : Signature} {ts : List Token} {ws : List (List ℕ)} {cs : List ℕ} → TellsWords sig ts ws cs → (vs : List (List ℕ)) (ds : List ℕ) → TellsWords sig ts vs ds
      → (ws ≡ vs) × (cs ≡ ds)
  words_once {sig} (comma {w = w} {c = c} {rest = rest} {ws = ws} {cs = cs} v h) vs ds k =
      let f = first_word k (word w) (punctuation 44 ∷ rest) refl in
      let more : (ws ≡ f.2) × (cs ≡ f.3) = behind f.2 f.3 (λ b. words_once h f.2 f.3 b) f.8 in
      let same : w ≡ f.0 = ap (λ (t : Token). t.1) f.4 in (
        ap (λ x. x ∷ ws) same ∙ ap (λ xs. f.0 ∷ xs) more.0 ∙ sym f.5,
        ap (λ d. d ∷ cs) (IsFirst_once (λ d. IsVariableWord sig d f.0) c f.1 (subst (IsVariableOfFirst sig c) same v) f.7) ∙ ap (λ xs. f.1 ∷ xs) more.1 ∙ sym f.6,
      )
    where
      behind : (us : List (List ℕ)) (es : List ℕ) → (TellsWords sig rest us es → (ws ≡ us) × (cs ≡ es)) → TellsBehind sig (punctuation 44 ∷ rest) us es
          → (ws ≡ us) × (cs ≡ es)
      behind us es further (inl b) = further b.1
      behind us es further (inr b) = marks_apart b.0
  words_once {sig} (close_bracket {w = w} {c = c} {rest = rest} {ws = ws} {cs = cs} v h) vs ds k =
      let f = first_word k (word w) (punctuation 93 ∷ rest) refl in
      let more : (ws ≡ f.2) × (cs ≡ f.3) = behind f.2 f.3 (λ b. brackets_once h f.2 f.3 b) f.8 in
      let same : w ≡ f.0 = ap (λ (t : Token). t.1) f.4 in (
        ap (λ x. x ∷ ws) same ∙ ap (λ xs. f.0 ∷ xs) more.0 ∙ sym f.5,
        ap (λ d. d ∷ cs) (IsFirst_once (λ d. IsVariableWord sig d f.0) c f.1 (subst (IsVariableOfFirst sig c) same v) f.7) ∙ ap (λ xs. f.1 ∷ xs) more.1 ∙ sym f.6,
      )
    where
      behind : (us : List (List ℕ)) (es : List ℕ) → (TellsBrackets sig rest us es → (ws ≡ us) × (cs ≡ es)) → TellsBehind sig (punctuation 93 ∷ rest) us es
          → (ws ≡ us) × (cs ≡ es)
      behind us es further (inl b) = marks_apart (sym b.0)
      behind us es further (inr b) = further b.1

-- the same is told after the same
pub told_same : (P Q : List (List ℕ) → List ℕ → Type 0) (before : Told) → ((ws : List (List ℕ)) (cs : List ℕ) → P ws cs → Q ws cs) → ((ws : List (List ℕ)) (cs : List ℕ) → Q ws cs → P ws cs)
    → (found : Option Told) → IsToldAfter P before found → IsToldAfter Q before found
told_same P Q before there back None h = λ ws cs q. h ws cs (back ws cs q)
told_same P Q before there back (Some after) h = (h.0, h.1, there h.0 h.1 h.2, h.3, h.4)

-- nothing more
pub told_nothing : (P : List (List ℕ) → List ℕ → Type 0) (before : Told) → P [] [] → IsToldAfter P before (Some before)
told_nothing P before h = ([], [], h, sym (append-nil before.words), sym (append-nil (map (λ c. c.0) before.cats)))

pub told_opened : (sig : Signature) (t : Token) (ts : List Token) (before : Told) → t ≡ punctuation 91 → (found : Option Told) → IsToldAfter (TellsWords sig ts) before found
    → IsToldAfter (TellsBrackets sig (t ∷ ts)) before found
told_opened sig t ts before e found h =
    told_same (TellsWords sig ts) (TellsBrackets sig (t ∷ ts)) before (λ ws cs k. opened sig t ts ws cs e k) (λ ws cs k. inside k t ts refl e) found h

-- one word more
pub told_word : (sig : Signature) (t : Token) (ts : List Token) (before more : Told) (w : List ℕ) (cat : CatId) → t ≡ word w → IsVariableOfFirst sig cat.0 w
    → more.words ≡ before.words ++ w ∷ [] → more.cats ≡ before.cats ++ cat ∷ [] → (found : Option Told) → IsToldAfter (TellsBehind sig ts) more found
    → IsToldAfter (TellsWords sig (t ∷ ts)) before found
told_word sig t ts before more w cat e v words cats None h =
    λ ws cs k. (let f = first_word k t ts refl in h f.2 f.3 f.8)
told_word sig t ts before more w cat e v words cats (Some after) h = (
  w ∷ h.0,
  cat.0 ∷ h.1,
  subst (λ u. TellsWords sig (u ∷ ts) (w ∷ h.0) (cat.0 ∷ h.1)) (sym e) (a_word sig w cat.0 ts h.0 h.1 v h.2),
  h.3 ∙ ap (λ xs. xs ++ h.0) words ∙ append_assoc before.words (w ∷ []) h.0,
  h.4 ∙ ap (λ xs. map (λ (c : CatId). c.0) xs ++ h.1) cats ∙ ap (λ xs. xs ++ h.1) (map-append (λ (c : CatId). c.0) before.cats (cat ∷ []))
      ∙ append_assoc (map (λ (c : CatId). c.0) before.cats) (cat.0 ∷ []) h.1,
)

-- where the words are not different nothing is telling
pub not_telling : (sig : Signature) (name : List ℕ) (t : Token) (ts : List Token) (told : Told) (before : Told) → before.words ≡ [] → IsToldAfter (TellsBrackets sig ts) before (Some told) → (AreDifferentWords told.words → ⊥)
    → (cs : List ℕ) → IsTelling sig name (t ∷ ts) cs → ⊥
not_telling sig name t ts told before none h same cs k =
    let w = k.1 in
    let once = brackets_once w.1 h.0 h.1 h.2 in
    same (subst AreDifferentWords (once.0 ∙ sym (h.3 ∙ ap (λ xs. xs ++ h.0) none)) w.2)

-- the first telling occurrence stands further on
pub tells_later : (sig : Signature) (name : List ℕ) (t : Token) (ts : List Token) → ((cs : List ℕ) → IsTelling sig name (t ∷ ts) cs → ⊥) → (found : Option (List CatId))
    → MatchOption found ((cs : List ℕ) → FirstTells sig name ts cs → ⊥) (λ cats. FirstTells sig name ts (map (λ c. c.0) cats))
    → MatchOption found ((cs : List ℕ) → FirstTells sig name (t ∷ ts) cs → ⊥) (λ cats. FirstTells sig name (t ∷ ts) (map (λ c. c.0) cats))
tells_later sig name t ts none None h = λ cs k. go cs k
  where
    go : (cs : List ℕ) → FirstTells sig name (t ∷ ts) cs → ⊥
    go cs (inl k) = none cs k
    go cs (inr k) = h cs k.1
tells_later sig name t ts none (Some cats) h = inr (none, h)

pub tells_later_at : {X : Type 0} (f : X → Token) (sig : Signature) (name : List ℕ) (xs : List X) (x : X) → 1 ≤ length xs
    → ((cs : List ℕ) → IsTelling sig name (f (get_or xs 0 x) ∷ map f (take (length xs - 1) (drop 1 xs))) cs → ⊥) → (found : Option (List CatId))
    → MatchOption found ((cs : List ℕ) → FirstTells sig name (map f (take (length xs - 1) (drop 1 xs))) cs → ⊥)
    (λ cats. FirstTells sig name (map f (take (length xs - 1) (drop 1 xs))) (map (λ c. c.0) cats))
    → MatchOption found ((cs : List ℕ) → FirstTells sig name (map f xs) cs → ⊥) (λ cats. FirstTells sig name (map f xs) (map (λ c. c.0) cats))
tells_later_at f sig name [] x h none found k = absurd (omega (arith, h))
tells_later_at f sig name (y ∷ xs) x h none found k =
    let whole : take (length (y ∷ xs) - 1) xs ≡ xs = take_all (length (y ∷ xs) - 1) xs (omega arith) in
    tells_later sig name (f y) (map f xs) (subst (λ ys. (cs : List ℕ) → IsTelling sig name (f y ∷ map f ys) cs → ⊥) whole none) found
    (subst (λ ys. MatchOption found ((cs : List ℕ) → FirstTells sig name (map f ys) cs → ⊥) (λ cats. FirstTells sig name (map f ys) (map (λ c. c.0) cats))) whole k)

pub first_tells_once : (sig : Signature) (name : List ℕ) (ts : List Token) (cs ds : List ℕ) → FirstTells sig name ts cs → FirstTells sig name ts ds → cs ≡ ds
first_tells_once sig name [] cs ds h k = absurd h
first_tells_once sig name (t ∷ ts) cs ds (inl h) (inl k) = (brackets_once h.1.1 k.1.0 ds k.1.1).1
first_tells_once sig name (t ∷ ts) cs ds (inl h) (inr k) = absurd (k.0 cs h)
first_tells_once sig name (t ∷ ts) cs ds (inr h) (inl k) = absurd (h.0 ds k)
first_tells_once sig name (t ∷ ts) cs ds (inr h) (inr k) = first_tells_once sig name ts cs ds h.1 k.1

pub first_tells_stands : (sig : Signature) (name : List ℕ) (ts : List Token) (cs : List ℕ) → FirstTells sig name ts cs → StandsIn name ts
first_tells_stands sig name [] cs h = absurd h
first_tells_stands sig name (t ∷ ts) cs (inl h) = inl h.0
first_tells_stands sig name (t ∷ ts) cs (inr h) = inr (first_tells_stands sig name ts cs h.1)

-- one word less to compare
pub different_step : (ws : List (List ℕ)) (i : ℕ) (w : List ℕ) (r : Bool) → i < length ws → w ≡ get_or ws i w
    → (IsTrue r ↔ AllByRecursion (λ (v : List ℕ). w ≡ v → ⊥) (take (length ws - (i + 1)) (drop (i + 1) ws))) → r ≡ true
    → (AreDifferentWords (drop i ws) ↔ AreDifferentWords ws) → AreDifferentWords (drop (i + 1) ws) ↔ AreDifferentWords ws
different_step ws i w r lt is new holds h =
    let e : drop i ws ≡ w ∷ drop (i + 1) ws = drop_more ws i w lt ∙ ap (λ x. x ∷ drop (i + 1) ws) (sym is) in
    let k : AreDifferentWords (w ∷ drop (i + 1) ws) ↔ AreDifferentWords ws = subst (λ xs. AreDifferentWords xs ↔ AreDifferentWords ws) e h in
    let all : AllByRecursion (λ (v : List ℕ). w ≡ v → ⊥) (drop (i + 1) ws) = subst (AllByRecursion (λ (v : List ℕ). w ≡ v → ⊥)) (take_rest ws (i + 1)) (new.0 holds) in
    (λ a. k.0 (all, a), λ b. (k.1 b).1)

pub different_end : (ws : List (List ℕ)) (i : ℕ) (w : List ℕ) (r : Bool) → i < length ws → w ≡ get_or ws i w
    → (IsTrue r ↔ AllByRecursion (λ (v : List ℕ). w ≡ v → ⊥) (take (length ws - (i + 1)) (drop (i + 1) ws))) → r ≡ false
    → (AreDifferentWords (drop i ws) ↔ AreDifferentWords ws) → IsTrue false ↔ AreDifferentWords ws
different_end ws i w r lt is new fails h =
    let e : drop i ws ≡ w ∷ drop (i + 1) ws = drop_more ws i w lt ∙ ap (λ x. x ∷ drop (i + 1) ws) (sym is) in
    let k : AreDifferentWords (w ∷ drop (i + 1) ws) ↔ AreDifferentWords ws = subst (λ xs. AreDifferentWords xs ↔ AreDifferentWords ws) e h in
    let rest : AllByRecursion (λ (v : List ℕ). w ≡ v → ⊥) (drop (i + 1) ws) → IsTrue r = λ all. new.1 (subst (AllByRecursion (λ (v : List ℕ). w ≡ v → ⊥)) (sym (take_rest ws (i + 1))) all) in
    (λ t. (let never : false ≡ true = t in cc), λ b. (let holds : r ≡ true = rest ((k.1 b).0) in sym fails ∙ holds))
