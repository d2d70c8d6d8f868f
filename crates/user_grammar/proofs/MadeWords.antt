-- The words of the binders of a form without a fault, and those in brackets.
use Rattle.std.proofs.Common.{◌≡◌, ◌≢◌, ℕ, List, [], ◌∷◌, ◌++◌, refl, ap, ◌∙◌, sym, subst, inl, inr, arith}
use Rattle.std.proofs.lemmas.List.{append-nil, append_assoc, append_cancel_right}
use Rattle.std.specs.List.{AllByRecursion}
use Rattle.sy_base.specs.Tokens.{PlainToken}
use Rattle.binding_terms.specs.declared.grammar.Cat.{Cat}
use Rattle.outline_reader.specs.Plain.{PlainPortion}
use Rattle.rule_schemes.specs.Reading.{IsCategoryWord}
use Rattle.user_grammar.specs.Names.{IsAmong, names, AllApart, AllDiffer}
use Rattle.user_grammar.specs.Production.{IsMark, AreBrackets, no_brackets, brackets, AreWords, one_more, last_one}
use Rattle.user_grammar.specs.Fault.{Place, outside, behind_slot, before_word, behind_word, IsOutside, IsSlotWord, IsBinderWord, IsPlaceBehind, at_start, behind_one_more, Follows, slot, item, opens, in_brackets, separator, closes, closes_behind, StandsOutside, no_binder, again, IsBinderOf}
use Rattle.user_grammar.proofs.Spellings.{not_both}
use Rattle.user_grammar.proofs.MadeDecided.{Decided, not_refused, mark_decided, among_decided}
use Rattle.user_grammar.proofs.MadeParts.{Part, itself, bound_as, part_of, AreNamesOf, IsSound, InBrackets, Parts, no_parts, terminal_part, binder_part, slot_part}
use Rattle.binding_terms.proofs.Lists.{all_also, nothing_pushed, same_last}

-- the words of the binders among these parts
abbrev pub words_of : List Part → List (List ℕ)
words_of [] = []
words_of (itself token ∷ parts) = words_of parts
words_of (bound_as c word ∷ parts) = word ∷ words_of parts
words_of (part_of c bound ∷ parts) = words_of parts

pick : {A : Type 0} → Decided A → (one other : Place) → Place
pick (inl is) one other = one
pick (inr not) one other = other

picked : {A : Type 0} (d : Decided A) (one other : Place) → A → one ≡ pick d one other
unfolding pick
picked (inl is) one other holds = refl
picked (inr not) one other holds = absurd (not holds)

not_picked : {A : Type 0} (d : Decided A) (one other : Place) → (A → ⊥) → other ≡ pick d one other
unfolding pick
not_picked (inl is) one other fails = absurd (fails is)
not_picked (inr not) one other fails = refl

-- brackets take tokens from the front
mutual
  pub taken_brackets : {bound : List (List ℕ)} {tokens rest : List PlainToken} → AreBrackets bound tokens rest → (front : List PlainToken) × (tokens ≡ front ++ rest)
  taken_brackets no_brackets = ([], refl)
  taken_brackets (brackets {opening = opening} mark more) = let left = taken_words more in (opening ∷ left.0, ap (λ ts. opening ∷ ts) left.1)

  taken_words : {bound : List (List ℕ)} {tokens rest : List PlainToken} → AreWords bound tokens rest → (front : List PlainToken) × (tokens ≡ front ++ rest)
  taken_words (one_more {token = token} {comma = comma} kind mark more) =
      let left = taken_words more in (token ∷ comma ∷ left.0, ap (λ ts. token ∷ comma ∷ ts) left.1)
  taken_words (last_one {token = token} {closing = closing} kind mark more) =
      let left = taken_brackets more in (token ∷ closing ∷ left.0, ap (λ ts. token ∷ closing ∷ ts) left.1)

module _ (portions : List PlainPortion) (cats : List Cat) (known : AreNamesOf portions cats) where
  next_place : Place → PlainToken → Place
  next_place outside token = pick (known.slot_tells token) (behind_slot []) outside
  next_place (behind_slot named) token = pick (mark_decided 91 token) (before_word named) (pick (known.slot_tells token) (behind_slot []) outside)
  next_place (before_word named) token = pick (mark_decided 93 token) (behind_slot named) (behind_word (token.text ∷ named))
  next_place (behind_word named) token = pick (mark_decided 93 token) (behind_slot named) (before_word named)

  after_slot : (place : Place) (token : PlainToken) → IsOutside place token → IsSlotWord portions token → behind_slot [] ≡ next_place place token
  unfolding next_place
  after_slot outside token out is = picked (known.slot_tells token) (behind_slot []) outside is
  after_slot (behind_slot named) token out is =
      picked (known.slot_tells token) (behind_slot []) outside is ∙ not_picked (mark_decided 91 token) (before_word named) (pick (known.slot_tells token) (behind_slot []) outside) out
  after_slot (before_word named) token out is = absurd out
  after_slot (behind_word named) token out is = absurd out

  after_item : (place : Place) (token : PlainToken) → IsOutside place token → (IsSlotWord portions token → ⊥) → outside ≡ next_place place token
  unfolding next_place
  after_item outside token out not = not_picked (known.slot_tells token) (behind_slot []) outside not
  after_item (behind_slot named) token out not =
      not_picked (known.slot_tells token) (behind_slot []) outside not ∙ not_picked (mark_decided 91 token) (before_word named) (pick (known.slot_tells token) (behind_slot []) outside) out
  after_item (before_word named) token out not = absurd out
  after_item (behind_word named) token out not = absurd out

  follows_next : {place next : Place} {token : PlainToken} → Follows portions place token next → next ≡ next_place place token
  unfolding next_place
  follows_next {place = place} (slot {token = token} out is) = after_slot place token out is
  follows_next {place = place} (item {token = token} out not) = after_item place token out not
  follows_next (opens {named = named} {token = token} mark) = picked (mark_decided 91 token) (before_word named) (pick (known.slot_tells token) (behind_slot []) outside) mark
  follows_next (in_brackets {named = named} {token = token} not) = not_picked (mark_decided 93 token) (behind_slot named) (behind_word (token.text ∷ named)) not
  follows_next (separator {named = named} {token = token} not) = not_picked (mark_decided 93 token) (behind_slot named) (before_word named) not
  follows_next (closes {named = named} {token = token} mark) = picked (mark_decided 93 token) (behind_slot named) (behind_word (token.text ∷ named)) mark
  follows_next (closes_behind {named = named} {token = token} mark) = picked (mark_decided 93 token) (behind_slot named) (before_word named) mark

  -- there is one place behind some tokens
  pub place_once : {front other : List PlainToken} {place also : Place} → IsPlaceBehind portions front place → IsPlaceBehind portions other also → front ≡ other → place ≡ also
  place_once at_start at_start same = refl
  place_once at_start (behind_one_more {front = front} {token = token} is follows) same = absurd (nothing_pushed front token same)
  place_once (behind_one_more {front = front} {token = token} is follows) at_start same = absurd (nothing_pushed front token (sym same))
  place_once (behind_one_more {front = front} {place = place} {next = next} {token = token} is follows)
      (behind_one_more {front = other} {place = also} {next = then_also} {token = another} too follows_too) same =
      let ends = same_last front other token another same in
      let before = place_once is too ends.0 in
      follows_next follows ∙ ap (λ (p : Place). next_place p token) before ∙ ap (λ (t : PlainToken). next_place also t) ends.1 ∙ sym (follows_next follows_too)

  -- where brackets are left: what they take, and what is left before the token
  pub record Skipped (front tokens rest mid : List PlainToken) (token : PlainToken) (behind : List PlainToken) : Type 0 where
    pub taken : List PlainToken
    pub left : List PlainToken
    pub at : mid ≡ taken ++ left
    pub rest_is : rest ≡ left ++ token ∷ behind
    pub tokens_are : tokens ≡ taken ++ rest

  not_marked : (front : List PlainToken) (place wanted : Place) (token : PlainToken) → IsPlaceBehind portions (front ++ []) place → IsPlaceBehind portions front wanted
      → IsOutside place token → IsOutside wanted token
  not_marked front place wanted token is there out = subst (λ (p : Place). IsOutside p token) (place_once is there (append-nil front)) out

  not_closing : (token : PlainToken) → token.kind ≡ 0 → IsMark 93 token → ⊥
  not_closing token kind mark = absurd (let same : 0 ≡ 2 = sym kind ∙ mark.0 in let never : ⊥ = omega (arith, same) in never)

  comma_closes_nothing : (token : PlainToken) → IsMark 44 token → IsMark 93 token → ⊥
  comma_closes_nothing token comma closing = absurd (differ (sym comma.1 ∙ closing.1))
    where
      differ : ◌≡◌ {A = List ℕ} (44 ∷ []) (93 ∷ []) → ⊥
      differ same = cc

  further : (front mid : List PlainToken) (t u : PlainToken) (place : Place) → t ≡ u → IsPlaceBehind portions (front ++ t ∷ mid) place
      → IsPlaceBehind portions ((front ++ u ∷ []) ++ mid) place
  further front mid t u place same is =
      subst (λ (ts : List PlainToken). IsPlaceBehind portions ts place)
      (ap (λ (v : PlainToken). front ++ v ∷ mid) same ∙ sym (append_assoc front (u ∷ []) mid)) is

  mutual
    pub skip : {bound : List (List ℕ)} {tokens rest : List PlainToken} → AreBrackets bound tokens rest → (front mid behind : List PlainToken) (named : List (List ℕ)) (token : PlainToken) (place : Place)
        → IsPlaceBehind portions front (behind_slot named) → tokens ≡ mid ++ token ∷ behind → IsPlaceBehind portions (front ++ mid) place → IsOutside place token
        → Skipped front tokens rest mid token behind
    skip no_brackets front mid behind named token place at split is out = record { taken = []; left = mid; at = refl; rest_is = split; tokens_are = refl }
    skip (brackets {opening = opening} mark more) front [] behind named token place at split is out =
        let same : opening ≡ token = cc in
        absurd (not_marked front place (behind_slot named) token is at out (subst (IsMark 91) same mark))
    skip (brackets {opening = opening} {tokens = inner} mark more) front (t ∷ mid) behind named token place at split is out =
        let same : t ≡ opening = cc in let tail : inner ≡ mid ++ token ∷ behind = cc in
        let rest = skip_words more (front ++ opening ∷ []) mid behind named token place (behind_one_more at (opens mark)) tail (further front mid t opening place same is) out in
        record {
          taken = opening ∷ rest.taken;
          left = rest.left;
          at = ap (λ (v : PlainToken). v ∷ mid) same ∙ ap (λ ts. opening ∷ ts) rest.at;
          rest_is = rest.rest_is;
          tokens_are = ap (λ ts. opening ∷ ts) rest.tokens_are;
        }

    pub skip_words : {bound : List (List ℕ)} {tokens rest : List PlainToken} → AreWords bound tokens rest → (front mid behind : List PlainToken) (named : List (List ℕ)) (token : PlainToken) (place : Place)
        → IsPlaceBehind portions front (before_word named) → tokens ≡ mid ++ token ∷ behind → IsPlaceBehind portions (front ++ mid) place → IsOutside place token
        → Skipped front tokens rest mid token behind
    skip_words (one_more kind mark more) front [] behind named token place at split is out = absurd (not_marked front place (before_word named) token is at out)
    skip_words (last_one kind mark more) front [] behind named token place at split is out = absurd (not_marked front place (before_word named) token is at out)
    skip_words (one_more {token = word} kind mark more) front (t ∷ []) behind named token place at split is out =
        let same : t ≡ word = cc in
        absurd (not_marked (front ++ word ∷ []) place (behind_word (word.text ∷ named)) token (further front [] t word place same is)
        (behind_one_more at (in_brackets (not_closing word kind))) out)
    skip_words (last_one {token = word} kind mark more) front (t ∷ []) behind named token place at split is out =
        let same : t ≡ word = cc in
        absurd (not_marked (front ++ word ∷ []) place (behind_word (word.text ∷ named)) token (further front [] t word place same is)
        (behind_one_more at (in_brackets (not_closing word kind))) out)
    skip_words (one_more {token = word} {comma = comma} {tokens = inner} kind mark more) front (t ∷ u ∷ mid) behind named token place at split is out =
        let same : t ≡ word = cc in let also : u ≡ comma = cc in let tail : inner ≡ mid ++ token ∷ behind = cc in
        let there = behind_one_more (behind_one_more at (in_brackets (not_closing word kind))) (separator (comma_closes_nothing comma mark)) in
        let rest = skip_words more ((front ++ word ∷ []) ++ comma ∷ []) mid behind (word.text ∷ named) token place there tail
        (further (front ++ word ∷ []) mid u comma place also (further front (u ∷ mid) t word place same is)) out in
        record {
          taken = word ∷ comma ∷ rest.taken;
          left = rest.left;
          at = ap (λ (v : PlainToken). v ∷ u ∷ mid) same ∙ ap (λ (v : PlainToken). word ∷ v ∷ mid) also ∙ ap (λ ts. word ∷ comma ∷ ts) rest.at;
          rest_is = rest.rest_is;
          tokens_are = ap (λ ts. word ∷ comma ∷ ts) rest.tokens_are;
        }
    skip_words (last_one {token = word} {closing = closing} {tokens = inner} kind mark more) front (t ∷ u ∷ mid) behind named token place at split is out =
        let same : t ≡ word = cc in let also : u ≡ closing = cc in let tail : inner ≡ mid ++ token ∷ behind = cc in
        let there = behind_one_more (behind_one_more at (in_brackets (not_closing word kind))) (closes_behind mark) in
        let rest = skip more ((front ++ word ∷ []) ++ closing ∷ []) mid behind (word.text ∷ named) token place there tail
        (further (front ++ word ∷ []) mid u closing place also (further front (u ∷ mid) t word place same is)) out in
        record {
          taken = word ∷ closing ∷ rest.taken;
          left = rest.left;
          at = ap (λ (v : PlainToken). v ∷ u ∷ mid) same ∙ ap (λ (v : PlainToken). word ∷ v ∷ mid) also ∙ ap (λ ts. word ∷ closing ∷ ts) rest.at;
          rest_is = rest.rest_is;
          tokens_are = ap (λ ts. word ∷ closing ∷ ts) rest.tokens_are;
        }

module _ (portions : List PlainPortion) (cats : List Cat) (known : AreNamesOf portions cats) (apart : AllApart (names cats)) (form : List PlainToken) (sound : IsSound portions form) where
  -- the binders behind one have other words
  later_differ : {tokens : List PlainToken} {parts : List Part} (earlier : PlainToken) (at : StandsOutside portions form earlier) → IsBinderWord portions earlier → (mid : List PlainToken)
      → Parts portions cats known form sound tokens parts → at.stands.rest ≡ mid ++ tokens → AllByRecursion (λ word. earlier.text ≢ word) (words_of parts)
  later_differ earlier at is mid no_parts split = tt
  later_differ earlier at is mid (terminal_part {token = token} {tokens = tokens} here rest_is term no_slot no_binds more) split =
      later_differ earlier at is (mid ++ token ∷ []) more (split ∙ sym (append_assoc mid (token ∷ []) tokens))
  later_differ earlier at is mid (binder_part {token = token} {tokens = tokens} here rest_is no_slot binds spells more) split =
      let whole : here.stands.front ++ token ∷ tokens ≡ (at.stands.front ++ earlier ∷ mid) ++ token ∷ tokens =
      ap (λ (ts : List PlainToken). here.stands.front ++ token ∷ ts) (sym rest_is) ∙ sym here.stands.split ∙ at.stands.split
      ∙ ap (λ (ts : List PlainToken). at.stands.front ++ earlier ∷ ts) split ∙ sym (append_assoc at.stands.front (earlier ∷ mid) (token ∷ tokens)) in
      let fronts = append_cancel_right here.stands.front (at.stands.front ++ earlier ∷ mid) (token ∷ tokens) whole in (
        λ same. sound.no_second token (record {
          stands = here;
          is_binder = binds;
          earlier = record {
            token = earlier;
            stands = record {
              place = at.place;
              stands = record { front = at.stands.front; rest = mid; split = fronts; is_place = at.stands.is_place };
              is_outside = at.is_outside;
            };
            is_binder = is;
            same = same;
          };
        }),
        later_differ earlier at is (mid ++ token ∷ []) more (split ∙ sym (append_assoc mid (token ∷ []) tokens)),
      )
  later_differ earlier at is mid (slot_part {token = token} {tokens = tokens} {rest = rest} here rest_is is_slot spells are_brackets in_them opened more) split =
      let taken = taken_brackets are_brackets in
      later_differ earlier at is (mid ++ token ∷ taken.0) more
      (split ∙ ap (λ (ts : List PlainToken). mid ++ token ∷ ts) taken.1 ∙ sym (append_assoc mid (token ∷ taken.0) rest))

  -- no two binders have one word
  pub words_differ : {tokens : List PlainToken} {parts : List Part} → Parts portions cats known form sound tokens parts → AllDiffer (words_of parts)
  words_differ no_parts = tt
  words_differ (terminal_part here rest_is term no_slot no_binds more) = words_differ more
  words_differ (binder_part {token = token} here rest_is no_slot binds spells more) = (later_differ token here binds [] more rest_is, words_differ more)
  words_differ (slot_part here rest_is is_slot spells are_brackets in_them opened more) = words_differ more

  pub slot_or_binder : (token other : PlainToken) → token ≡ other → IsSlotWord portions token → IsBinderWord portions other → ⊥
  slot_or_binder token other same is binds =
      let c = known.slot_word token is in let d = known.binder_word other binds in
      not_both cats c.0.0 d.0.0 other.text apart (subst (λ (t : PlainToken). IsCategoryWord cats c.0.0 t.text) same c.1) d.1

  -- each binder outside brackets is among the parts
  among : {tokens : List PlainToken} {parts : List Part} → Parts portions cats known form sound tokens parts → (front mid : List PlainToken) (token : PlainToken) (behind : List PlainToken) (place : Place)
      → form ≡ front ++ tokens → tokens ≡ mid ++ token ∷ behind → IsPlaceBehind portions (front ++ mid) place → IsOutside place token → IsBinderWord portions token
      → IsAmong (words_of parts) token.text
  among no_parts front [] token behind place whole split is out binds = absurd cc
  among no_parts front (t ∷ mid) token behind place whole split is out binds = absurd cc
  among (terminal_part {token = head} here rest_is term no_slot no_binds more) front [] token behind place whole split is out binds =
      let same : token ≡ head = cc in absurd (no_binds (subst (IsBinderWord portions) same binds))
  among (binder_part {token = head} here rest_is no_slot spells_one spells more) front [] token behind place whole split is out binds =
      let same : head ≡ token = cc in inl (ap (λ (t : PlainToken). t.text) same)
  among (slot_part {token = head} here rest_is is_slot spells are_brackets in_them opened more) front [] token behind place whole split is out binds =
      let same : head ≡ token = cc in absurd (slot_or_binder head token same is_slot binds)
  among (terminal_part {token = head} {tokens = tokens} here rest_is term no_slot no_binds more) front (t ∷ mid) token behind place whole split is out binds =
      let same : t ≡ head = cc in let tail : tokens ≡ mid ++ token ∷ behind = cc in
      among more (front ++ head ∷ []) mid token behind place (whole ∙ sym (append_assoc front (head ∷ []) tokens)) tail
      (further portions cats known front mid t head place same is) out binds
  among (binder_part {token = head} {tokens = tokens} here rest_is no_slot spells_one spells more) front (t ∷ mid) token behind place whole split is out binds =
      let same : t ≡ head = cc in let tail : tokens ≡ mid ++ token ∷ behind = cc in
      inr (among more (front ++ head ∷ []) mid token behind place (whole ∙ sym (append_assoc front (head ∷ []) tokens)) tail
      (further portions cats known front mid t head place same is) out binds)
  among (slot_part {token = head} {tokens = tokens} {rest = rest} here rest_is is_slot spells are_brackets in_them opened more) front (t ∷ mid) token behind place whole split is out binds =
      let same : t ≡ head = cc in let tail : tokens ≡ mid ++ token ∷ behind = cc in
      let starts : here.stands.front ++ head ∷ tokens ≡ front ++ head ∷ tokens =
      ap (λ (ts : List PlainToken). here.stands.front ++ head ∷ ts) (sym rest_is) ∙ sym here.stands.split ∙ whole in
      let fronts = append_cancel_right here.stands.front front (head ∷ tokens) starts in
      let there : IsPlaceBehind portions (front ++ head ∷ []) (behind_slot []) =
      subst (λ (ts : List PlainToken). IsPlaceBehind portions (ts ++ head ∷ []) (behind_slot [])) fronts (behind_one_more here.stands.is_place (slot here.is_outside is_slot)) in
      let past = skip portions cats known are_brackets (front ++ head ∷ []) mid behind [] token place there tail (further portions cats known front mid t head place same is) out in
      among more ((front ++ head ∷ []) ++ past.taken) past.left token behind place
      (whole ∙ sym (append_assoc front (head ∷ []) tokens) ∙ ap (λ (ts : List PlainToken). (front ++ head ∷ []) ++ ts) past.tokens_are
      ∙ sym (append_assoc (front ++ head ∷ []) past.taken rest))
      past.rest_is
      (subst (λ (ts : List PlainToken). IsPlaceBehind portions ts place)
      (ap (λ (ts : List PlainToken). (front ++ head ∷ []) ++ ts) past.at ∙ sym (append_assoc (front ++ head ∷ []) past.taken past.left))
      (further portions cats known front mid t head place same is)) out binds

  module _ (parts : List Part) (are : Parts portions cats known form sound form parts) where
    binder_among : (word : List ℕ) → IsBinderOf portions form word → IsAmong (words_of parts) word
    binder_among word b =
        subst (IsAmong (words_of parts)) b.same
        (among are [] b.stands.stands.front b.token b.stands.stands.rest b.stands.place refl b.stands.stands.split b.stands.stands.is_place b.stands.is_outside b.is_binder)

    -- the words in brackets are those of binders
    pub bound_among : (named bound : List (List ℕ)) → InBrackets portions cats known form sound named bound → AllByRecursion (IsAmong (words_of parts)) bound
    bound_among named [] stand = tt
    bound_among named (word ∷ bound) stand = (
      subst (IsAmong (words_of parts)) stand.2
          (not_refused (among_decided (words_of parts) stand.0.text)
          (λ not. sound.no_wrong stand.0 (no_binder named stand.1 (λ b. not (binder_among stand.0.text b))))),
      bound_among (word ∷ named) bound stand.4,
    )

  -- and no word is named twice
  not_named : (named bound : List (List ℕ)) → InBrackets portions cats known form sound named bound → AllByRecursion (λ word. IsAmong named word → ⊥) bound
  not_named named [] stand = tt
  not_named named (word ∷ bound) stand = (
    λ among_them. sound.no_wrong stand.0 (again named stand.1 stand.3 (subst (IsAmong named) (sym stand.2) among_them)),
    all_also (λ (w : List ℕ). IsAmong (word ∷ named) w → ⊥) (λ (w : List ℕ). IsAmong named w → ⊥) bound (λ w not is. not (inr is)) (not_named (word ∷ named) bound stand.4),
  )

  pub bound_differ : (named bound : List (List ℕ)) → InBrackets portions cats known form sound named bound → AllDiffer bound
  bound_differ named [] stand = tt
  bound_differ named (word ∷ bound) stand = (
    all_also (λ (w : List ℕ). IsAmong (word ∷ named) w → ⊥) (λ (w : List ℕ). word ≢ w) bound (λ w not same. not (inl same)) (not_named (word ∷ named) bound stand.4),
    bound_differ (word ∷ named) bound stand.4,
  )
