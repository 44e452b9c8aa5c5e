-- Events answered on a writer.
use Rattle.std.proofs.Common.{◌≡◌, ℕ, Option, List, [], ◌∷◌, ◌++◌, ◌<◌, true, false, map, length, arith, refl, sym, ◌∙◌, ap, subst, append_assoc}
use Rattle.std.proofs.lemmas.List.{append-nil}
use Rattle.std.specs.Io.KnownBytes.{Appends, Keeps}
use Rattle.std.proofs.KnownBytes.{Appends-nil, Appends-trans, Appends-kept}
use Rattle.std.specs.Prelude.{◌==◌}
use Rattle.std.proofs.lemmas.Bool.Decides.{Decides-eqb}
use Rattle.http_core.specs.declared.event.Event.{Event}
use Rattle.http_core.specs.Event.{EventValue, event_of}
use Rattle.cache_server.specs.Answering.{answered, answered_all}
use Rattle.cache_server.specs.Cache.{CacheValue}
use Rattle.cache_server.specs.Writing.{WritesSome, IsToldInPart, TellsBut, StopsTelling}
use Rattle.cache_server.specs.Connection.{HasAllButLast}
use Rattle.cache_server.specs.declared.error.ConnError.{ConnError}
use Rattle.cache_server.specs.declared.error.ConnError.TheVariants.{ReadFault, WriteFault, Memory}
use Rattle.cache_server.proofs.Serving.{ServesAll, ServesOne, serves_none, serves_more, serves_join, text_is}

-- the first of two texts in part
pub writes_front : (a b : Option (List ℕ)) (x y : List ℕ) → WritesSome a b x → WritesSome a b (x ++ y)
writes_front a b x y w = record { written = w.written; lost = w.lost ++ y; whole = ap (λ z. z ++ y) w.whole ∙ append_assoc w.written w.lost y; appends = w.appends }

-- the first of two texts, and the second in part
pub writes_on : (a b c : Option (List ℕ)) (x y : List ℕ) → Appends a b x → WritesSome b c y → WritesSome a c (x ++ y)
writes_on a b c x y p w = record { written = x ++ w.written; lost = w.lost; whole = ap (λ z. x ++ z) w.whole ∙ sym (append_assoc x w.written w.lost); appends = Appends-trans a b c x w.written p w.appends }

-- where all is written, so is all but the last answer
all_but_last : (old new : CacheValue) (done : List EventValue) (text : List ℕ) → ServesAll old done text new → 0 < length done → HasAllButLast old done text
unfolding answered_all
all_but_last old new [] text s some = absurd (omega (arith, some))
all_but_last old new (event ∷ []) text s some = record { earlier = []; last = event; part = text; whole = refl; has = refl }
all_but_last old new (event ∷ other ∷ done) text s some =
    let first : List ℕ × CacheValue = answered old event in
    let others : List ℕ × CacheValue = answered_all first.1 (other ∷ done) in
    let h : HasAllButLast first.1 (other ∷ done) others.0 = all_but_last first.1 others.1 (other ∷ done) others.0 refl (omega arith) in
    let told : first.0 ++ others.0 ≡ text = text_is (first.0 ++ others.0, others.1) (text, new) s in
    record {
      earlier = event ∷ h.earlier;
      last = h.last;
      part = h.part;
      whole = ap (λ z. event ∷ z) h.whole;
      has = sym told ∙ ap (λ z. first.0 ++ z) h.has ∙ sym (append_assoc first.0 (answered_all first.1 h.earlier).0 h.part);
    }

-- so after earlier events, which are all told
pub last_joins : (old now : CacheValue) (before done : List EventValue) (text told : List ℕ) → ServesAll old before text now → HasAllButLast now done told → HasAllButLast old (before ++ done) (text ++ told)
last_joins old now before done text told s h =
    let mid : List ℕ × CacheValue = answered_all now h.earlier in
    let joined : answered_all old (before ++ h.earlier) ≡ (text ++ mid.0, mid.1) = serves_join old now mid.1 before h.earlier text mid.0 s refl in
    record {
      earlier = before ++ h.earlier;
      last = h.last;
      part = h.part;
      whole = ap (λ z. before ++ z) h.whole ∙ sym (append_assoc before h.earlier (h.last ∷ []));
      has = ap (λ z. text ++ z) h.has ∙ sym (append_assoc text mid.0 h.part) ∙ ap (λ z. z ++ h.part) (sym (text_is (answered_all old (before ++ h.earlier)) (text ++ mid.0, mid.1) joined));
    }

-- the events up to the ones that are left
pub record TellsOn (old : CacheValue) (events left : List EventValue) (before now : Option (List ℕ)) (new : CacheValue) : Type 0 where
  pub done : List EventValue
  pub text : List ℕ
  pub whole : events ≡ done ++ left
  pub answers : ServesAll old done text new
  pub appends : Appends before now text

unfoldable pub told_first : (old : CacheValue) (events left : List EventValue) (before : Option (List ℕ)) → events ≡ left → TellsOn old events left before before old
told_first old events left before e = record { done = []; text = []; whole = e; answers = serves_none old; appends = Appends-nil before }

module _ (old now new : CacheValue) (events left : List EventValue) (event : EventValue) (text : List ℕ) (before mid after : Option (List ℕ)) where
  unfoldable pub told_more : TellsOn old events (event ∷ left) before mid now → ServesOne now event text new → Appends mid after text → TellsOn old events left before after new
  told_more t s a = record {
    done = t.done ++ event ∷ [];
    text = t.text ++ text;
    whole = t.whole ∙ sym (append_assoc t.done (event ∷ []) left);
    answers = serves_more old now new t.done event t.text text (t.text ++ text) t.answers refl s;
    appends = Appends-trans before mid after t.text text t.appends a;
  }

  -- of the last text a part is written
  unfoldable pub told_part : TellsOn old events (event ∷ left) before mid now → ServesOne now event text new → (w : WritesSome mid after text) → (b : TellsBut old events before after new left w.lost) × HasAllButLast old b.done b.told
  told_part t s w = (
    record {
      done = t.done ++ event ∷ [];
      told = t.text ++ w.written;
      whole = t.whole ∙ sym (append_assoc t.done (event ∷ []) left);
      answers = serves_more old now new t.done event t.text text ((t.text ++ w.written) ++ w.lost) t.answers (append_assoc t.text w.written w.lost ∙ ap (λ z. t.text ++ z) (sym w.whole)) s;
      appends = Appends-trans before mid after t.text w.written t.appends w.appends;
    },
    record { earlier = t.done; last = event; part = w.written; whole = refl; has = ap (λ z. z ++ w.written) (sym (text_is (answered_all old t.done) (t.text, now) t.answers)) },
  )

-- so far
unfoldable pub told_so_far : (old now new : CacheValue) (events left : List EventValue) (before after : Option (List ℕ)) → TellsOn old events left before after now → new ≡ now → TellsBut old events before after new left []
told_so_far old now new events left before after t e = record {
  done = t.done;
  told = t.text;
  whole = t.whole;
  answers = subst (λ z. ServesAll old t.done z new) (sym (append-nil t.text)) (subst (ServesAll old t.done t.text) (sym e) t.answers);
  appends = t.appends;
}

module _ {A : Type 0} (events : List (Event A)) where
  none_of : (items : List (Event A)) → (length items == 0) ≡ true → map event_of items ≡ []
  none_of [] t = refl
  none_of (event ∷ items) t = absurd (let none : length (event ∷ items) ≡ 0 = (Decides-eqb (length (event ∷ items)) 0).0 t in omega arith)

  some_of : (items : List (Event A)) → (length items == 0) ≡ false → 0 < length (map event_of items)
  some_of [] f = let t : (0 == 0) ≡ true = (Decides-eqb 0 0).1 refl in absurd cc
  some_of (event ∷ items) f = omega arith

  -- where there is nothing to answer
  pub told_nothing : (old : CacheValue) (before : Option (List ℕ)) → (length events == 0) ≡ true → TellsBut old (map event_of events) before before old [] []
  told_nothing old before t = told_so_far old old old (map event_of events) [] before before (told_first old (map event_of events) [] before (none_of events t)) refl

  -- all is written, but it isn't flushed
  pub flush_failed : (old new : CacheValue) (before mid after : Option (List ℕ)) → TellsBut old (map event_of events) before mid new [] [] → Keeps mid after → (length events == 0) ≡ false
      → StopsTelling old (map event_of events) before after new WriteFault
  flush_failed old new before mid after t kept f = (
    [],
    [],
    record { done = t.done; told = t.told; whole = t.whole; answers = t.answers; appends = Appends-kept before mid after t.told t.appends kept },
    let n = ap length t.whole ∙ ap length (append-nil t.done) in let some = some_of events f in
        all_but_last old new t.done t.told (subst (λ z. ServesAll old t.done z new) (append-nil t.told) t.answers) (omega (arith, n, some)),
  )

-- the run of answers ends with this event
pub told_stops : (old now new : CacheValue) (events left : List EventValue) (event : EventValue) (before mid after : Option (List ℕ)) (e : ConnError)
    → TellsOn old events (event ∷ left) before mid now → IsToldInPart now event mid after new e → StopsTelling old events before after new e
told_stops old now new events left event before mid after ReadFault t p = absurd p
told_stops old now new events left event before mid after WriteFault t (text, s, w) = let told = told_part old now new events left event text before mid after t s w in (left, w.lost, told.0, told.1)
told_stops old now new events left event before mid after Memory t (same, kept) = (event, left, told_so_far old now new events (event ∷ left) before after (told_kept t) same)
  where
    told_kept : TellsOn old events (event ∷ left) before mid now → TellsOn old events (event ∷ left) before after now
    told_kept t = record { done = t.done; text = t.text; whole = t.whole; answers = t.answers; appends = Appends-kept before mid after t.text t.appends kept }
