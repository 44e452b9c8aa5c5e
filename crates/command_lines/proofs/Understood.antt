-- What a command can take is understood.
use Rattle.std.proofs.Common.{◌≡◌, ◌∙◌, ◌<◌, ◌&&◌, ◌||◌, ℕ, Bool, true, false, not, zero, suc, refl, sym, ap, ap₂, subst, arith, cond, List, [], ◌∷◌, ◌++◌, map, length, Some, None, is_some, true≢false}
use Rattle.std.specs.Prelude.{⊤, bytes_eq, option_and_then, option_map, slice_get}
use Rattle.std.specs.List.{AllByRecursion, Contains, IsDistinct, find, list_any, slice_index_or}
use Rattle.std.specs.Option.{option_map_or, option_or}
use Rattle.std.proofs.lemmas.List.Folds.{list_any-append}
use Rattle.std.proofs.lemmas.Map.Keys.{IsDistinct-head, IsDistinct-tail}
use Rattle.std.proofs.lemmas.Slice.Eq.{bytes_eq-Decides}
use Rattle.clap.specs.Facts.{explicit_source}
use Rattle.clap.specs.Walk.{Row, Rule, has_row, nothing_held}
use Rattle.clap.specs.Simple.{App, Shape, built}
use Rattle.clap.specs.Takes.{is_given}
use Rattle.clap.specs.Words.{Text, fault_of, first_of, subcommand_of}
use Rattle.command_lines.specs.CommandLine.{program_line}
use Rattle.command_lines.specs.Given.{Given, HasPlaceFor, HasPlaces, MissesNeeded, IsUnderstood, Manner, as_flag, by_itself, given_text, in_one_word, in_two_words, names_of_flags, names_of_options, names_of_words, needed_names, typed, usual_text}
use Rattle.command_lines.proofs.Defaults.{default_in, first_with_defaults, have_texts, still_given, with_defaults}
use Rattle.command_lines.proofs.Walking.{Arrives, CallsBuilt, IsPlainLevel, HasItsPlace, KnowsFlag, KnowsOption, KnowsWord, AreInTurn, arrives, at, call_fault_is, enters, lacks_one, level_fault_is, missing_fault, level_rows, place_after, row_given, word_rule}

-- ---- what is given, by its rows

pub all_have_texts : (given : List Given) → have_texts (map row_given given) ≡ true
all_have_texts [] = refl
all_have_texts (g ∷ rest) = all_have_texts rest

pub first_of_given : (name : Text) (given : List Given) → first_of name (map row_given given) ≡ given_text name given
first_of_given name [] = refl
first_of_given name (g ∷ rest) = go (bytes_eq g.name name) (first_of_given name rest)
  where
    go : (b : Bool) → first_of name (map row_given rest) ≡ given_text name rest
        → option_and_then (λ (r : Row). slice_get r.values 0) (cond b (Some (row_given g)) (find (λ r. bytes_eq r.id name) (map row_given rest)))
        ≡ option_map (λ (k : Given). k.text) (cond b (Some g) (find (λ k. bytes_eq k.name name) rest))
    go true e = refl
    go false e = e

given_at : (name : Text) (given : List Given) (k : ℕ) → k < length (map (λ (g : Given). g.name) given) → slice_index_or (map (λ (g : Given). g.name) given) k name ≡ name
    → is_given name (map row_given given) ≡ true
given_at name [] k lt is = absurd (omega arith)
given_at name (g ∷ rest) zero lt is = rw ((bytes_eq-Decides g.name name).1 is)
given_at name (g ∷ rest) (suc k) lt is = go (bytes_eq g.name name) (given_at name rest k (omega arith) is)
  where
    go : (b : Bool) → is_given name (map row_given rest) ≡ true
        → option_map_or (λ (r : Row). explicit_source r.source) (cond b (Some (row_given g)) (find (λ r. bytes_eq r.id name) (map row_given rest))) false ≡ true
    go true e = refl
    go false e = e

all_given : (rules : List Rule) (given : List Given) (names : List Text) → AllByRecursion (Contains (map (λ (g : Given). g.name) given)) names
    → list_any (λ n. not (is_given n (with_defaults rules (map row_given given)))) names ≡ false
all_given rules given [] there = refl
all_given rules given (n ∷ rest) there = rw (still_given n rules (map row_given given), given_at n given there.0.0 there.0.1 there.0.2) (all_given rules given rest there.1)

not_given : (name : Text) (given : List Given) → given_text name given ≡ None → is_given name (map row_given given) ≡ false
not_given name [] none = refl
not_given name (g ∷ rest) none = go (bytes_eq g.name name) none (not_given name rest)
  where
    go : (b : Bool) → option_map (λ (k : Given). k.text) (cond b (Some g) (find (λ k. bytes_eq k.name name) rest)) ≡ None
        → (given_text name rest ≡ None → is_given name (map row_given rest) ≡ false)
        → option_map_or (λ (r : Row). explicit_source r.source) (cond b (Some (row_given g)) (find (λ r. bytes_eq r.id name) (map row_given rest))) false ≡ false
    go true e later = absurd (true≢false (ap is_some e))
    go false e later = later e

one_lacks : (rules : List Rule) (given : List Given) (name : Text) (names : List Text) → is_given name (map row_given given) ≡ false → (k : ℕ) → k < length names → slice_index_or names k name ≡ name
    → list_any (λ n. not (is_given n (with_defaults rules (map row_given given)))) names ≡ true
one_lacks rules given name [] none k lt is = absurd (omega arith)
one_lacks rules given name (n ∷ rest) none zero lt is = rw (is, still_given name rules (map row_given given), none)
one_lacks rules given name (n ∷ rest) none (suc k) lt is = go (not (is_given n (with_defaults rules (map row_given given)))) (one_lacks rules given name rest none k (omega arith) is)
  where
    go : (b : Bool) {c : Bool} → c ≡ true → (b || c) ≡ true
    go true e = refl
    go false e = e

-- ---- each has its place

at_name : (P : Text → Type 0) (names : List Text) (name : Text) → AllByRecursion P names → (k : ℕ) → k < length names → slice_index_or names k name ≡ name → P name
at_name P [] name all k lt is = absurd (omega arith)
at_name P (x ∷ rest) name all zero lt is = subst P is all.0
at_name P (x ∷ rest) name all (suc k) lt is = at_name P rest name all.1 k (omega arith) is

by_name : (P : Text → Type 0) (names : List Text) (name : Text) → AllByRecursion P names → Contains names name → P name
by_name P names name all there = at_name P names name all there.0 there.1 there.2

-- what a command has, built, for each of its names
pub record Knows (line : App) (s : Shape) : Type 0 where
  pub options : AllByRecursion (KnowsOption s) (names_of_options line)
  pub words : AllByRecursion (KnowsWord s) (names_of_words line)
  pub flags : AllByRecursion (KnowsFlag s) (names_of_flags line)
  pub usual : (name : Text) → default_in s.rules name ≡ usual_text line name
  pub needs : (there : Text → Bool) → list_any (λ a. a.required && not (there a.id)) s.rules ≡ list_any (λ n. not (there n)) (needed_names line)

-- a word alone goes to the first place
abbrev IsInPlace : Manner → ℕ → Type 0
IsInPlace in_two_words p = ⊤
IsInPlace in_one_word p = ⊤
IsInPlace by_itself p = p ≡ 1
IsInPlace as_flag p = ⊤

abbrev IsStillToCome : List Row → ℕ → Given → Type 0
IsStillToCome rows p g = (has_row g.name rows ≡ false) × IsInPlace g.manner p

module _ (line : App) (s : Shape) (knows : Knows line s) where
  ready : (manner : Manner) (name text : Text) (p : ℕ) → HasPlaceFor line manner name text → IsInPlace manner p → HasItsPlace s p manner name text
  ready in_two_words name text p place first = (by_name (KnowsOption s) (names_of_options line) name knows.options place.0, place.1)
  ready in_one_word name text p place first = by_name (KnowsOption s) (names_of_options line) name knows.options place
  ready by_itself name text p place first = (by_name (KnowsWord s) (names_of_words line) name knows.words place.0, place.1, first)
  ready as_flag name text p place first = (by_name (KnowsFlag s) (names_of_flags line) name knows.flags place.0, place.1)

  -- there is one place for a word alone
  one_place : (one other : Text) → Contains (names_of_words line) one → Contains (names_of_words line) other → bytes_eq one other ≡ false → ⊥
  one_place one other a b apart =
      let x = by_name (KnowsWord s) (names_of_words line) one knows.words a in
      let y = by_name (KnowsWord s) (names_of_words line) other knows.words b in
      let same : Some (word_rule x.must one) ≡ Some (word_rule y.must other) = sym x.by_index ∙ y.by_index in
      true≢false (sym ((bytes_eq-Decides one other).1 (ap (λ o. option_map_or (λ r. r.id) o []) same)) ∙ apart)

  still_in_place : (m : Manner) (name text : Text) (p : ℕ) (n : Manner) (other words : Text) → HasPlaceFor line m name text → HasPlaceFor line n other words
      → bytes_eq name other ≡ false → IsInPlace n p → IsInPlace n (place_after m p)
  still_in_place m name text p in_two_words other words a b apart first = tt
  still_in_place m name text p in_one_word other words a b apart first = tt
  still_in_place m name text p as_flag other words a b apart first = tt
  still_in_place in_two_words name text p by_itself other words a b apart first = first
  still_in_place in_one_word name text p by_itself other words a b apart first = first
  still_in_place as_flag name text p by_itself other words a b apart first = first
  still_in_place by_itself name text p by_itself other words a b apart first = absurd (one_place name other a.0 b.0 apart)

  still_new : (g : Given) (rows : List Row) (p : ℕ) (rest : List Given) → HasPlaceFor line g.manner g.name g.text → AllByRecursion (λ k. HasPlaceFor line k.manner k.name k.text) rest
      → AllByRecursion (λ n. bytes_eq g.name n ≡ false) (map (λ k. k.name) rest) → AllByRecursion (IsStillToCome rows p) rest
      → AllByRecursion (IsStillToCome (rows ++ row_given g ∷ []) (place_after g.manner p)) rest
  still_new g rows p [] place known apart new = tt
  still_new g rows p (k ∷ rest) place known apart new =
      let none : has_row k.name (rows ++ row_given g ∷ []) ≡ false = rw (list_any-append (λ r. bytes_eq r.id k.name) rows (row_given g ∷ []), new.0.0, apart.0) in
      ((none, still_in_place g.manner g.name g.text p k.manner k.name k.text place known.0 apart.0 new.0.1), still_new g rows p rest place known.1 apart.1 new.1)

  runs : (given : List Given) (rows : List Row) (p : ℕ) → AllByRecursion (λ g. HasPlaceFor line g.manner g.name g.text) given
      → IsDistinct bytes_eq (map (λ g. g.name) given) → AllByRecursion (IsStillToCome rows p) given → AreInTurn s p rows given
  runs [] rows p known once new = tt
  runs (g ∷ rest) rows p known once new = (
    ready g.manner g.name g.text p known.0 new.0.1,
    new.0.0,
    runs rest (rows ++ row_given g ∷ []) (place_after g.manner p) known.1 (IsDistinct-tail bytes_eq g.name (map (λ k. k.name) rest) once)
        (still_new g rows p rest known.0 known.1 (IsDistinct-head bytes_eq g.name (map (λ k. k.name) rest) once) new.1),
  )

  first_place : (m : Manner) → IsInPlace m 1
  first_place in_two_words = tt
  first_place in_one_word = tt
  first_place by_itself = refl
  first_place as_flag = tt

  all_new : (given : List Given) → AllByRecursion (IsStillToCome [] 1) given
  all_new [] = tt
  all_new (g ∷ rest) = ((refl, first_place g.manner), all_new rest)

  came : (given : List Given) → HasPlaces line given → Arrives s (at nothing_held 1) (typed given) (map row_given given)
  came given places = arrives s given nothing_held 1 [] (record { rows_are = refl; faultless = refl }) (runs given [] 1 places.known places.once (all_new given))

  rows : List Given → List Row
  rows given = with_defaults s.rules (map row_given given)

  lacks : (given : List Given) → lacks_one s (rows given) ≡ list_any (λ n. not (is_given n (rows given))) (needed_names line)
  unfolding rows
  lacks given = knows.needs (λ n. is_given n (with_defaults s.rules (map row_given given)))

  module _ (plain : IsPlainLevel s) (calls : CallsBuilt (built program_line) line.top.name s) where
    fault_is : (given : List Given) → HasPlaces line given → (b : Bool) → lacks_one s (rows given) ≡ b
        → fault_of program_line (line.top.name ∷ typed given) ≡ missing_fault b
    unfolding rows
    fault_is given places b is =
        call_fault_is (built program_line) line.top.name s calls (typed given) ∙ level_fault_is s plain (typed given) (map row_given given) (came given places) b is

    pub missed : MissesNeeded line
    unfolding rows
    missed given name places needed none =
        fault_is given places true (lacks given ∙ one_lacks s.rules given name (needed_names line) (not_given name given none) needed.0 needed.1 needed.2)

    pub understood : s.name ≡ line.top.name → IsUnderstood line
    unfolding rows
    understood named given takes =
        let words = typed given in
        let met : subcommand_of program_line (line.top.name ∷ words) ≡ Some (s.name, rows given) =
        enters (built program_line) line.top.name s calls words ∙ ap (λ rows. Some (s.name, rows)) (level_rows s plain words (map row_given given) (came given takes.places)) in
        record {
          called = record {
            faultless = fault_is given takes.places false (lacks given ∙ all_given s.rules given (needed_names line) takes.whole);
            command_is = ap (option_map (λ p. p.0)) met ∙ ap Some named;
          };
          texts_are = λ name. ap (λ o. first_of name (option_map_or (λ p. p.1) o [])) met
              ∙ (first_with_defaults name s.rules (map row_given given) (all_have_texts given) ∙ ap₂ option_or (first_of_given name given) (knows.usual name));
        }
