-- What the defaults of a command add to the rows of what is given.
use Rattle.std.proofs.Common.{◌≡◌, ◌∙◌, ◌&&◌, ◌||◌, Bool, cond, true, false, not, refl, sym, ap, subst, List, [], ◌∷◌, ◌++◌, Option, Some, None, true≢false}
use Rattle.std.specs.Prelude.{option_and_then, slice_get}
use Rattle.std.specs.List.{find, fold, list_all}
use Rattle.std.specs.Option.{option_map_or, option_or}
use Rattle.std.specs.Str.{bytes_eq}
use Rattle.std.proofs.lemmas.List.Folds.{find-append}
use Rattle.std.proofs.lemmas.Slice.Eq.{bytes_eq-Decides}
use Rattle.clap.specs.Facts.{explicit_source}
use Rattle.clap.specs.Takes.{is_given}
use Rattle.clap.specs.Walk.{Row, Rule, Text, first_of, has_row, more_values, reading_by, with_default}
use Rattle.clap.specs.declared.parser.matches.ValueSource.TheVariants.{DefaultValue}
use Rattle.command_lines.proofs.Rows.{at_missing, is_bare}

abbrev pub with_defaults : List Rule → List Row → List Row
with_defaults rules rows = fold with_default rows rules

-- the row of a default
abbrev default_row : Rule → Text → List Text → Row
default_row a d ds = record { id = a.id; values = d ∷ ds; count = None; source = Some DefaultValue; reading = reading_by a }

-- what a default comes to
pub data Adds (rows : List Row) (a : Rule) (after : List Row) : Type 0 where
  nothing : a.defaults ≡ [] → after ≡ rows → Adds rows a after
  kept : (d : Text) (ds : List Text) → a.defaults ≡ d ∷ ds → has_row a.id rows ≡ true → after ≡ rows → Adds rows a after
  added : (d : Text) (ds : List Text) → a.defaults ≡ d ∷ ds → has_row a.id rows ≡ false → after ≡ rows ++ default_row a d ds ∷ [] → Adds rows a after

cond_same : {X : Type 0} (b : Bool) (x : X) → cond b x x ≡ x
cond_same true x = refl
cond_same false x = refl

adds : (rows : List Row) (a : Rule) → Adds rows a (with_default rows a)
adds rows a = by_defaults a.defaults refl
  where
    by_row : (d : Text) (ds : List Text) → a.defaults ≡ d ∷ ds → (has : Bool) → has_row a.id rows ≡ has → Adds rows a (with_default rows a)
    by_row d ds is true has = kept d ds is has (rw has)
    by_row d ds is false has = added d ds is has (rw (has, is) (at_missing a.id (more_values DefaultValue (d ∷ ds)) (default_row a d ds ∷ []) rows has))

    by_defaults : (ds : List Text) → a.defaults ≡ ds → Adds rows a (with_default rows a)
    by_defaults [] is = nothing is (rw is (cond_same (has_row a.id rows) rows))
    by_defaults (d ∷ ds) is = by_row d ds is (has_row a.id rows) refl

-- ---- what is given stays so

given_after : (id : Text) (rows : List Row) (a : Rule) (after : List Row) → Adds rows a after → is_given id after ≡ is_given id rows
given_after id rows a after (nothing is same) = ap (is_given id) same
given_after id rows a after (kept d ds is has same) = ap (is_given id) same
given_after id rows a after (added d ds is has same) =
    ap (is_given id) same ∙ (ap (λ (o : Option Row). option_map_or (λ (r : Row). explicit_source r.source) o false) (find-append (λ (r : Row). bytes_eq r.id id) rows (default_row a d ds ∷ []))
    ∙ go (find (λ (r : Row). bytes_eq r.id id) rows) (bytes_eq a.id id))
  where
    go : (o : Option Row) (b : Bool) → option_map_or (λ (r : Row). explicit_source r.source) (option_or o (cond b (Some (default_row a d ds)) None)) false
        ≡ option_map_or (λ (r : Row). explicit_source r.source) o false
    go (Some r) b = refl
    go None true = refl
    go None false = refl

pub still_given : (id : Text) (rules : List Rule) (rows : List Row) → is_given id (with_defaults rules rows) ≡ is_given id rows
still_given id [] rows = refl
still_given id (a ∷ rest) rows = still_given id rest (with_default rows a) ∙ given_after id rows a (with_default rows a) (adds rows a)

-- ---- and the texts are those that are given, or else the defaults

-- each row has a text
abbrev pub have_texts : List Row → Bool
have_texts = list_all (λ (r : Row). not (is_bare r.values))

-- the default of the first argument with this name that has one
abbrev pub default_in : List Rule → Text → Option Text
default_in rules name = option_and_then (λ (a : Rule). slice_get a.defaults 0) (find (λ (a : Rule). not (is_bare a.defaults) && bytes_eq a.id name) rules)

or_none : (o : Option Text) → o ≡ option_or o None
or_none None = refl
or_none (Some x) = refl

texts_after : (rows : List Row) (d : Text) (ds : List Text) (a : Rule) → have_texts rows ≡ true → have_texts (rows ++ default_row a d ds ∷ []) ≡ true
texts_after [] d ds a full = refl
texts_after (r ∷ rest) d ds a full = go (not (is_bare r.values)) (texts_after rest d ds a) full
  where
    go : (b : Bool) → (have_texts rest ≡ true → have_texts (rest ++ default_row a d ds ∷ []) ≡ true) → (b && have_texts rest) ≡ true → (b && have_texts (rest ++ default_row a d ds ∷ [])) ≡ true
    go true later h = later h
    go false later h = h

all_texts : (rows : List Row) (a : Rule) (after : List Row) → Adds rows a after → have_texts rows ≡ true → have_texts after ≡ true
all_texts rows a after (nothing is same) full = ap have_texts same ∙ full
all_texts rows a after (kept d ds is has same) full = ap have_texts same ∙ full
all_texts rows a after (added d ds is has same) full = ap have_texts same ∙ texts_after rows d ds a full

-- a row that is there has the text that is found
text_there : (name : Text) (rows : List Row) → have_texts rows ≡ true → has_row name rows ≡ true → (t : Text) × (first_of name rows ≡ Some t)
text_there name [] full has = absurd (true≢false (sym has))
text_there name (r ∷ rest) full has = by_name (bytes_eq r.id name) r.values full has (text_there name rest)
  where
    by_name : (b : Bool) (values : List Text) → (not (is_bare values) && have_texts rest) ≡ true → (b || has_row name rest) ≡ true
        → (have_texts rest ≡ true → has_row name rest ≡ true → (t : Text) × (first_of name rest ≡ Some t))
        → (t : Text) × (option_and_then (λ (r : Row). slice_get r.values 0) (cond b (Some (record r { values = values })) (find (λ (r : Row). bytes_eq r.id name) rest)) ≡ Some t)
    by_name true [] full has later = absurd (true≢false (sym full))
    by_name true (v ∷ vs) full has later = (v, refl)
    by_name false [] full has later = absurd (true≢false (sym full))
    by_name false (v ∷ vs) full has later = later full has

none_there : (name : Text) (rows : List Row) → has_row name rows ≡ false → find (λ (r : Row). bytes_eq r.id name) rows ≡ None
none_there name [] none = refl
none_there name (r ∷ rest) none = go (bytes_eq r.id name) none (none_there name rest)
  where
    go : (b : Bool) → (b || has_row name rest) ≡ false → (has_row name rest ≡ false → find (λ (r : Row). bytes_eq r.id name) rest ≡ None) → cond b (Some r) (find (λ (r : Row). bytes_eq r.id name) rest) ≡ None
    go true h later = absurd (true≢false h)
    go false h later = later h

module _ (name : Text) (rows : List Row) (a : Rule) (rest : List Rule) (full : have_texts rows ≡ true) where
  kept_text : (d : Text) (b : Bool) → bytes_eq a.id name ≡ b → has_row a.id rows ≡ true
      → option_or (first_of name rows) (default_in rest name) ≡ option_or (first_of name rows) (cond b (Some d) (default_in rest name))
  kept_text d false is has = refl
  kept_text d true is has =
      let there = text_there name rows full (subst (λ n. has_row n rows ≡ true) ((bytes_eq-Decides a.id name).0 is) has) in
      rw there.1

  added_text : (d : Text) (ds : List Text) (b : Bool) → bytes_eq a.id name ≡ b → has_row a.id rows ≡ false
      → option_or (option_and_then (λ (r : Row). slice_get r.values 0) (option_or (find (λ (r : Row). bytes_eq r.id name) rows) (cond b (Some (default_row a d ds)) None))) (default_in rest name)
      ≡ option_or (first_of name rows) (cond b (Some d) (default_in rest name))
  added_text d ds false is has = go (find (λ (r : Row). bytes_eq r.id name) rows)
    where
      go : (o : Option Row) → option_or (option_and_then (λ (r : Row). slice_get r.values 0) (option_or o None)) (default_in rest name) ≡ option_or (option_and_then (λ (r : Row). slice_get r.values 0) o) (default_in rest name)
      go None = refl
      go (Some r) = refl
  added_text d ds true is has =
      rw (none_there name rows (subst (λ n. has_row n rows ≡ false) ((bytes_eq-Decides a.id name).0 is) has))

  default_is : (d : Text) (ds : List Text) → a.defaults ≡ d ∷ ds → cond (bytes_eq a.id name) (Some d) (default_in rest name) ≡ default_in (a ∷ rest) name
  default_is d ds is = rw is (go (bytes_eq a.id name))
    where
      go : (b : Bool) → cond b (Some d) (default_in rest name) ≡ option_and_then (λ (x : Rule). slice_get x.defaults 0) (cond b (Some (record a { defaults = d ∷ ds })) (find (λ (x : Rule). not (is_bare x.defaults) && bytes_eq x.id name) rest))
      go true = refl
      go false = refl

  first_after : (after : List Row) → Adds rows a after → option_or (first_of name after) (default_in rest name) ≡ option_or (first_of name rows) (default_in (a ∷ rest) name)
  first_after after (nothing is same) = rw (same, is)
  first_after after (kept d ds is has same) =
      ap (λ (rs : List Row). option_or (first_of name rs) (default_in rest name)) same
      ∙ (kept_text d (bytes_eq a.id name) refl has ∙ ap (option_or (first_of name rows)) (default_is d ds is))
  first_after after (added d ds is has same) =
      ap (λ (rs : List Row). option_or (first_of name rs) (default_in rest name)) same
      ∙ (ap (λ (o : Option Row). option_or (option_and_then (λ (r : Row). slice_get r.values 0) o) (default_in rest name)) (find-append (λ (r : Row). bytes_eq r.id name) rows (default_row a d ds ∷ []))
      ∙ (added_text d ds (bytes_eq a.id name) refl has ∙ ap (option_or (first_of name rows)) (default_is d ds is)))

pub first_with_defaults : (name : Text) (rules : List Rule) (rows : List Row) → have_texts rows ≡ true → first_of name (with_defaults rules rows) ≡ option_or (first_of name rows) (default_in rules name)
first_with_defaults name [] rows full = or_none (first_of name rows)
first_with_defaults name (a ∷ rest) rows full =
    first_with_defaults name rest (with_default rows a) (all_texts rows a (with_default rows a) (adds rows a) full)
    ∙ first_after name rows a rest full (with_default rows a) (adds rows a)
