-- A run over one connection.
use Rattle.std.proofs.Common.{◌≡◌, ℕ, ◌+◌, inl, inr, Option, Some, None, List, [], ◌∷◌, ◌++◌, ◌<◌, ◌≤◌, length, take, arith, refl, sym, ◌∙◌, ap, subst, append_assoc}
use Rattle.std.proofs.lemmas.List.{append-nil, length-append}
use Rattle.std.specs.Io.KnownBytes.{Appends, Consumes, Keeps, IsAtEnd}
use Rattle.std.proofs.KnownBytes.{Appends-nil, Appends-trans, Consumes-nil, Consumes-trans, Consumes-kept}
use Rattle.http_core.specs.Event.{EventValue}
use Rattle.http_core.specs.Stream.{Cuts}
use Rattle.http_core.specs.Session.{SessionState, Closed, SessionValue, Stands, Feeds, Leaves, Holds}
use Rattle.http_core.proofs.Cutting.{cut_once, cuts_closed, cut_within, HasMore, empty_partial}
use Rattle.cache_server.specs.Cache.{CacheValue}
use Rattle.cache_server.specs.Writing.{TellsBut, StopsTelling}
use Rattle.cache_server.specs.Connection.{Runs, RunsBut, BreaksOff, ReadsNoFurther, HasAllButLast}
use Rattle.cache_server.specs.declared.error.ConnError.{ConnError}
use Rattle.cache_server.specs.declared.error.ConnError.TheVariants.{ReadFault, WriteFault, Memory}
use Rattle.cache_server.proofs.Serving.{ServesAll, serves_none, serves_join}
use Rattle.cache_server.proofs.Telling.{last_joins}

pub stands_cut : (session : SessionValue) (stream : List ℕ) (events : List EventValue) → Stands session stream events → (left : Option (List ℕ)) × Cuts session.prefix stream events left
unfolding Stands
stands_cut session stream events (left, cut, leaves) = (left, cut)

closed_left : (prefix : List ℕ) (state : SessionState) (stream : List ℕ) (events : List EventValue) (left : Option (List ℕ)) → state ≡ Closed → Cuts prefix stream events left → Leaves prefix state left → Cuts prefix stream events None
closed_left prefix state stream events None e c l = c
closed_left prefix state stream events (Some rest) e c l = absurd (let k : Holds prefix Closed rest = subst (λ z. Holds prefix z rest) e l in k)

pub stands_shut : (session : SessionValue) (stream : List ℕ) (events : List EventValue) → session.state ≡ Closed → Stands session stream events → Cuts session.prefix stream events None
unfolding Stands
stands_shut session stream events e (left, cut, leaves) = closed_left session.prefix session.state stream events left e cut leaves

-- what was read leaves a beginning of a request
pub record IsOpenAfter (prefix read : List ℕ) (events : List EventValue) : Type 0 where
  pub rest : List ℕ
  pub cut : Cuts prefix read events (Some rest)

open_left : (prefix : List ℕ) (state : SessionState) (stream : List ℕ) (events : List EventValue) (left : Option (List ℕ)) → (state ≡ Closed → ⊥) → Cuts prefix stream events left → Leaves prefix state left → IsOpenAfter prefix stream events
open_left prefix state stream events None o c l = absurd (o l)
open_left prefix state stream events (Some rest) o c l = record { rest = rest; cut = c }

pub stands_open : (session : SessionValue) (stream : List ℕ) (events : List EventValue) → (session.state ≡ Closed → ⊥) → Stands session stream events → IsOpenAfter session.prefix stream events
unfolding Stands
stands_open session stream events o (left, cut, leaves) = open_left session.prefix session.state stream events left o cut leaves

-- nothing more was read, and one piece more
pub nothing_further : (prefix read : List ℕ) (events : List EventValue) → IsOpenAfter prefix read events → ReadsNoFurther prefix (read ++ [])
nothing_further prefix read events o = record { earlier = read; piece = []; whole = refl; few = omega arith; events = events; rest = o.rest; open_before = o.cut }

pub piece_further : (prefix read piece more : List ℕ) (events : List EventValue) → IsOpenAfter prefix read events → length piece ≤ 65536 → more ≡ read ++ piece → ReadsNoFurther prefix more
piece_further prefix read piece more events o few e = record { earlier = read; piece = piece; whole = e; few = few; events = events; rest = o.rest; open_before = o.cut }

pub nothing_cut : (prefix : List ℕ) → Cuts prefix [] [] (Some [])
unfolding Cuts
nothing_cut prefix = (empty_partial prefix, refl)

-- so far
pub record RunsOn (prefix : List ℕ) (old : CacheValue) (input input_left written_before written : Option (List ℕ)) (session : SessionValue) (now : CacheValue) : Type 0 where
  pub read : List ℕ
  pub text : List ℕ
  pub before : List EventValue
  pub same : session.prefix ≡ prefix
  pub consumes : Consumes input input_left read
  pub appends : Appends written_before written text
  pub stands : Stands session read before
  pub answers : ServesAll old before text now
  pub goes_on : IsOpenAfter prefix read before

unfoldable pub runs_first : (prefix : List ℕ) (old : CacheValue) (input written : Option (List ℕ)) (session : SessionValue) → session.prefix ≡ prefix → Stands session [] [] → RunsOn prefix old input input written written session old
runs_first prefix old input written session same s = record { read = []; text = []; before = []; same = same; consumes = Consumes-nil input; appends = Appends-nil written; stands = s; answers = serves_none old; goes_on = record { rest = []; cut = nothing_cut prefix } }

-- where events are left bytes are, and none before them closes
undone : (prefix stream piece front rest : List ℕ) (done others : List EventValue) (a b : Option (List ℕ)) → piece ≡ front ++ rest
    → Cuts prefix (stream ++ front) done a → Cuts prefix (stream ++ piece) (done ++ others) b → 0 < length others → (0 < length rest) × (a ≡ None → ⊥)
undone prefix stream piece front rest done others a b whole c d some = (some_left rest by_rest, by_close)
  where
    longer : done ≡ done ++ others → ⊥
    longer e = let n : length done ≡ length done + length others = ap length e ∙ length-append done others in omega (arith, n, some)

    some_left : (bytes : List ℕ) → (bytes ≡ [] → ⊥) → 0 < length bytes
    some_left [] filled = absurd (filled refl)
    some_left (b ∷ bytes) filled = omega arith

    by_rest : rest ≡ [] → ⊥
    by_rest none =
        let same : piece ≡ front = whole ∙ ap (λ z. front ++ z) none ∙ append-nil front in
        longer (cut_once prefix (stream ++ front) done (done ++ others) a b c (subst (λ z. Cuts prefix (stream ++ z) (done ++ others) b) same d)).0

    by_close : a ≡ None → ⊥
    by_close shut =
        let all : Cuts prefix ((stream ++ front) ++ rest) done None = cuts_closed prefix (stream ++ front) rest done (subst (Cuts prefix (stream ++ front) done) shut c) in
        let here : (stream ++ front) ++ rest ≡ stream ++ piece = append_assoc stream front rest ∙ ap (λ z. stream ++ z) (sym whole) in
        longer (cut_once prefix (stream ++ piece) done (done ++ others) None b (subst (λ z. Cuts prefix z done None) here all) d).0

-- all of the events are told
pub all_answered : (old new : CacheValue) (events : List EventValue) (before after : Option (List ℕ)) (t : TellsBut old events before after new [] []) → ServesAll old events t.told new
all_answered old new events before after t =
    subst (λ z. ServesAll old z t.told new) (sym (t.whole ∙ append-nil t.done)) (subst (λ z. ServesAll old t.done z new) (append-nil t.told) t.answers)

module _ (prefix : List ℕ) (old : CacheValue) (input left more written_before written : Option (List ℕ)) (session : SessionValue) (now : CacheValue) (r : RunsOn prefix old input left written_before written session now) where
  -- at the end of the input
  pub runs_ended : (count : ℕ) (buffer : List ℕ) → count ≡ 0 → Consumes left more (take count buffer) → IsAtEnd more → Runs prefix old input more written_before written now
  runs_ended count buffer zero_is c end =
      let e : Consumes left more [] = subst (λ n. Consumes left more (take n buffer)) zero_is c in (
        Some r.goes_on.rest,
        record {
          front = r.read;
          told = r.text;
          consumes = Consumes-trans input left more r.read [] r.consumes e;
          appends = r.appends;
          answered = record { events = r.before; cut = r.goes_on.cut; answers = subst (λ z. ServesAll old r.before z now) (sym (append-nil r.text)) r.answers };
          no_further = nothing_further prefix r.read r.before r.goes_on;
          few_left = omega arith;
        },
        inl end,
      )

  -- given up between two pieces
  pub runs_stopped : Keeps left more → (begun : List ℕ) × RunsBut prefix old input more written_before written now [] [] (Some begun)
  runs_stopped kept = (
    r.goes_on.rest,
    record {
      front = r.read;
      told = r.text;
      consumes = subst (Consumes input more) (sym (append-nil r.read)) (Consumes-kept input left more r.read r.consumes kept);
      appends = r.appends;
      answered = record { events = r.before; cut = r.goes_on.cut; answers = subst (λ z. ServesAll old r.before z now) (sym (append-nil r.text)) r.answers };
      no_further = nothing_further prefix r.read r.before r.goes_on;
      few_left = omega arith;
    },
  )

  module _ (piece : List ℕ) (few : length piece ≤ 65536) (read : Consumes left more piece) where
    -- given up before the piece was cut
    pub runs_unfed : 0 < length piece → BreaksOff prefix old input more written_before written now Memory
    runs_unfed some = (
      piece,
      r.goes_on.rest,
      record {
        front = r.read;
        told = r.text;
        consumes = Consumes-trans input left more r.read piece r.consumes read;
        appends = r.appends;
        answered = record { events = r.before; cut = r.goes_on.cut; answers = subst (λ z. ServesAll old r.before z now) (sym (append-nil r.text)) r.answers };
        no_further = piece_further prefix r.read piece (r.read ++ piece) r.before r.goes_on few refl;
        few_left = few;
      },
      inl some,
    )

    module _ (new : SessionValue) (after : CacheValue) (written_more : Option (List ℕ)) (events : List EventValue) (feeds : Feeds session piece events new) where
      -- a piece whose events are all answered
      module _ (t : TellsBut now events written written_more after [] []) where
        pub runs_more : (new.state ≡ Closed → ⊥) → RunsOn prefix old input more written_before written_more new after
        runs_more o = record {
          read = r.read ++ piece;
          text = r.text ++ t.told;
          before = r.before ++ events;
          same = feeds.prefix ∙ r.same;
          consumes = Consumes-trans input left more r.read piece r.consumes read;
          appends = Appends-trans written_before written written_more r.text t.told r.appends t.appends;
          stands = feeds.stands r.read r.before r.stands;
          answers = serves_join old now after r.before events r.text t.told r.answers (all_answered now after events written written_more t);
          goes_on = subst (λ p. IsOpenAfter p (r.read ++ piece) (r.before ++ events)) (feeds.prefix ∙ r.same) (stands_open new (r.read ++ piece) (r.before ++ events) o (feeds.stands r.read r.before r.stands));
        }

        pub runs_closed : new.state ≡ Closed → Runs prefix old input more written_before written_more after
        runs_closed shut =
            let c : Cuts new.prefix (r.read ++ piece) (r.before ++ events) None = stands_shut new (r.read ++ piece) (r.before ++ events) shut (feeds.stands r.read r.before r.stands) in
            let s : ServesAll old (r.before ++ events) (r.text ++ t.told) after = serves_join old now after r.before events r.text t.told r.answers (all_answered now after events written written_more t) in (
              None,
              record {
                front = r.read ++ piece;
                told = r.text ++ t.told;
                consumes = subst (Consumes input more) (sym (append-nil (r.read ++ piece))) (Consumes-trans input left more r.read piece r.consumes read);
                appends = Appends-trans written_before written written_more r.text t.told r.appends t.appends;
                answered = record {
                  events = r.before ++ events;
                  cut = subst (λ z. Cuts z (r.read ++ piece) (r.before ++ events) None) (feeds.prefix ∙ r.same) c;
                  answers = subst (λ z. ServesAll old (r.before ++ events) z after) (sym (append-nil (r.text ++ t.told))) s;
                };
                no_further = piece_further prefix r.read piece ((r.read ++ piece) ++ []) r.before r.goes_on few (append-nil (r.read ++ piece));
                few_left = omega arith;
              },
              inr refl,
            )

      -- given up in its answers
      pub runs_broken : (others : List EventValue) (lost : List ℕ) (t : TellsBut now events written written_more after others lost)
          → (rest : List ℕ) × (cut : Option (List ℕ)) × (runs : RunsBut prefix old input more written_before written_more after rest lost cut)
          × (0 < length others → (0 < length rest) × (cut ≡ None → ⊥)) × (HasAllButLast now t.done t.told → HasAllButLast old runs.answered.events runs.told)
      runs_broken others lost t =
          let c : (rest : Option (List ℕ)) × Cuts session.prefix r.read r.before rest = stands_cut session r.read r.before r.stands in
          let d : (rest : Option (List ℕ)) × Cuts new.prefix (r.read ++ piece) (r.before ++ events) rest = stands_cut new (r.read ++ piece) (r.before ++ events) (feeds.stands r.read r.before r.stands) in
          let e : Cuts session.prefix (r.read ++ piece) (r.before ++ (t.done ++ others)) d.0 = subst (λ z. Cuts session.prefix (r.read ++ piece) (r.before ++ z) d.0) t.whole (subst (λ z. Cuts z (r.read ++ piece) (r.before ++ events) d.0) feeds.prefix d.1) in
          let h : HasMore session.prefix r.read piece (r.before ++ t.done) = cut_within session.prefix r.read piece r.before t.done others c.0 d.0 c.1 e in
          let s : ServesAll old (r.before ++ t.done) (r.text ++ (t.told ++ lost)) after = serves_join old now after r.before t.done r.text (t.told ++ lost) r.answers t.answers in
          let whole : r.read ++ piece ≡ (r.read ++ h.front) ++ h.rest = ap (λ z. r.read ++ z) h.whole ∙ sym (append_assoc r.read h.front h.rest) in (
            h.rest,
            h.left,
            record {
              front = r.read ++ h.front;
              told = r.text ++ t.told;
              consumes = subst (Consumes input more) whole (Consumes-trans input left more r.read piece r.consumes read);
              appends = Appends-trans written_before written written_more r.text t.told r.appends t.appends;
              answered = record {
                events = r.before ++ t.done;
                cut = subst (λ z. Cuts z (r.read ++ h.front) (r.before ++ t.done) h.left) r.same h.cut;
                answers = subst (λ z. ServesAll old (r.before ++ t.done) z after) (sym (append_assoc r.text t.told lost)) s;
              };
              no_further = piece_further prefix r.read piece ((r.read ++ h.front) ++ h.rest) r.before r.goes_on few (sym whole);
              few_left = let n = ap length h.whole ∙ length-append h.front h.rest in omega (arith, n, few);
            },
            undone session.prefix r.read piece h.front h.rest (r.before ++ t.done) others h.left d.0 h.whole h.cut (subst (λ z. Cuts session.prefix (r.read ++ piece) z d.0) (sym (append_assoc r.before t.done others)) e),
            last_joins old now r.before t.done r.text t.told r.answers,
          )

      at_request : (rest : List ℕ) (cut : Option (List ℕ)) → RunsBut prefix old input more written_before written_more after rest [] cut → 0 < length rest → (cut ≡ None → ⊥)
          → BreaksOff prefix old input more written_before written_more after Memory
      at_request rest None runs some goes = absurd (goes refl)
      at_request rest (Some begun) runs some goes = (rest, begun, runs, inl some)

      pub runs_broken_by : (e : ConnError) → StopsTelling now events written written_more after e → BreaksOff prefix old input more written_before written_more after e
      runs_broken_by ReadFault t = absurd t
      runs_broken_by Memory (event, others, t) = let x = runs_broken (event ∷ others) [] t in let y = x.3 (omega arith) in at_request x.0 x.1 x.2 y.0 y.1
      runs_broken_by WriteFault (others, lost, t, last) = let x = runs_broken others lost t in (x.0, lost, x.1, x.2, x.4 last)

-- given up before the first piece, for lack of memory or since the reader failed
pub runs_none : (prefix : List ℕ) (old : CacheValue) (input written : Option (List ℕ)) (why : ConnError) → (why ≡ WriteFault → ⊥) → BreaksOff prefix old input input written written old why
runs_none prefix old input written = by
  where
    nothing : RunsBut prefix old input input written written old [] [] (Some [])
    nothing = record {
      front = [];
      told = [];
      consumes = Consumes-nil input;
      appends = Appends-nil written;
      answered = record { events = []; cut = nothing_cut prefix; answers = serves_none old };
      no_further = nothing_further prefix [] [] (record { rest = []; cut = nothing_cut prefix });
      few_left = omega arith;
    }

    by : (why : ConnError) → (why ≡ WriteFault → ⊥) → BreaksOff prefix old input input written written old why
    by ReadFault n = ([], nothing)
    by WriteFault n = absurd (n refl)
    by Memory n = ([], [], nothing, inr refl)
