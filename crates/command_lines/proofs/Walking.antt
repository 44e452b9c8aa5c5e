-- How clap's walk goes over the words of what is given to a command.
use Rattle.std.proofs.Common.{◌≡◌, ◌∙◌, ◌&&◌, ◌||◌, ◌==◌, ℕ, Bool, cond, true, false, not, refl, sym, ap, subst, codes, List, [], ◌∷◌, ◌++◌, map, Some, None, append-nil, append_assoc, true≢false}
use Rattle.std.specs.Prelude.{⊤, option_and_then}
use Rattle.std.specs.List.{find, fold, list_all, list_any}
use Rattle.std.specs.Str.{bytes_eq}
use Rattle.clap.specs.Lexer.{long_of, long_of_rest, short_of, short_of_rest, strip_byte}
use Rattle.clap.specs.Values.{reading_of}
use Rattle.clap.specs.Walk.{Held, Row, Rule, Text, Walk, arg_by_id, arg_by_index, arg_by_long, finished, has_row, idle, is_empty, is_pending, more_values, nothing_held, pushed, option, settled, used, walk, walk_from, walked, with_default, answers_to, stop_after}
use Rattle.clap.specs.Simple.{App, Shape, entered, filled, label_of, names_of, new_rule, rows_at, with_index}
use Rattle.clap.proofs.WalkLemmas.{both, walk_stopped}
use Rattle.clap.proofs.FaultLemmas.{stopped_fault}
use Rattle.clap.specs.Takes.{is_given}
use Rattle.clap.specs.Kinds.{Kinds, or_else}
use Rattle.clap.specs.Faults.{built_fault, check_fault, default_fault, defaults_fault, given_default_fault, level_fault, settle_fault, turn_fault, walk_fault}
use Rattle.clap.specs.declared.error.kind.ErrorKind.TheVariants.{MissingRequiredArgument}
use Rattle.clap.specs.declared.builder.action.ArgAction.TheVariants.{Set}
use Rattle.clap.specs.declared.builder.value_parser.ValueParser.TheVariants as vp
use Rattle.clap.specs.declared.parser.matches.ValueSource.TheVariants.{CommandLine}
use Rattle.command_lines.proofs.Defaults.{with_defaults}
use Rattle.command_lines.proofs.Rows.{at_missing, is_bare, itself}
use Rattle.command_lines.specs.CommandLine.{flag, optional_word}
use Rattle.command_lines.specs.Given.{Given, Manner, as_flag, by_itself, can_be_text, in_one_word, in_two_words, typed, typed_as}

-- ---- a word that can be a text

pub no_end : (text : Text) → can_be_text text ≡ true → bytes_eq text (45 ∷ 45 ∷ []) ≡ false
no_end [] h = refl
no_end (c ∷ []) h = go (c == 45)
  where
    go : (b : Bool) → (b && false) ≡ false
    go true = refl
    go false = refl
no_end (c ∷ d ∷ rest) h = go (c == 45) _ h
  where
    go : (b x : Bool) → not b ≡ true → (b && x) ≡ false
    go true x e = absurd (true≢false (sym e))
    go false x e = refl

pub no_long : (text : Text) → can_be_text text ≡ true → long_of text ≡ None
no_long [] h = refl
no_long (c ∷ []) h = go (c == 45)
  where
    go : (b : Bool) → option_and_then long_of_rest (option_and_then (strip_byte 45) (cond b (Some []) None)) ≡ None
    go true = refl
    go false = refl
no_long (c ∷ d ∷ rest) h = go (c == 45) h
  where
    go : (b : Bool) → not b ≡ true → option_and_then long_of_rest (option_and_then (strip_byte 45) (cond b (Some (d ∷ rest)) None)) ≡ None
    go true e = absurd (true≢false (sym e))
    go false e = refl

pub no_short : (text : Text) → can_be_text text ≡ true → short_of text ≡ None
no_short [] h = refl
no_short (c ∷ []) h = go (c == 45)
  where
    go : (b : Bool) → option_and_then short_of_rest (cond b (Some []) None) ≡ None
    go true = refl
    go false = refl
no_short (c ∷ d ∷ rest) h = go (c == 45) h
  where
    go : (b : Bool) → not b ≡ true → option_and_then short_of_rest (cond b (Some (d ∷ rest)) None) ≡ None
    go true e = absurd (true≢false (sym e))
    go false e = refl

-- ---- rows

-- an option, a word alone and a flag, as a command that is built has them
abbrev pub option_rule : Bool → Text → Rule
option_rule must name = filled (record (new_rule name) { long = Some name; value_names = 1; action = Some Set; required = must })

abbrev pub word_rule : Bool → Text → Rule
word_rule must name = with_index 1 (filled (record (optional_word name) { required = must }))

abbrev pub flag_rule : Text → Rule
flag_rule name = filled (flag name)

-- what a command has for one that is given
abbrev pub row_for : Text → Text → Row
row_for name text = record { id = name; values = text ∷ []; count = None; source = Some CommandLine; reading = reading_of vp.String }

abbrev pub row_given : Given → Row
row_given g = row_for g.name g.text

and_none : (b : Bool) → (b && false) ≡ false
and_none true = refl
and_none false = refl

option_used : (must : Bool) (name text : Text) (rows : List Row) → has_row name rows ≡ false → used (option_rule must name) (text ∷ []) rows ≡ rows ++ row_for name text ∷ []
option_used must name text rows new =
    rw (at_missing name (λ _. []) [] rows new, append-nil rows) (at_missing name (more_values CommandLine (text ∷ [])) (row_for name text ∷ []) rows new)

word_used : (must : Bool) (name text : Text) (rows : List Row) → has_row name rows ≡ false → used (word_rule must name) (text ∷ []) rows ≡ rows ++ row_for name text ∷ []
word_used must name text rows new =
    rw (at_missing name (λ _. []) [] rows new, append-nil rows) (at_missing name (more_values CommandLine (text ∷ [])) (row_for name text ∷ []) rows new)

flag_used : (name : Text) (rows : List Row) → has_row name rows ≡ false → used (flag_rule name) [] rows ≡ rows ++ row_for name (codes "true") ∷ []
flag_used name rows new =
    rw (at_missing name (λ _. []) [] rows new, append-nil rows) (at_missing name (more_values CommandLine (codes "true" ∷ [])) (row_for name (codes "true") ∷ []) rows new)

-- ---- between two that are given

abbrev pub at : Held → ℕ → Walk
at h p = record { held = h; waiting = idle; position = p; is_trailing = false; stopped = None }

-- ---- what a command has

pub record KnowsOption (s : Shape) (name : Text) : Type 0 where
  pub must : Bool
  pub by_long : arg_by_long s.rules name ≡ Some (option_rule must name)
  pub by_id : arg_by_id s.rules name ≡ Some (option_rule must name)
  pub bare : long_of (codes "--" ++ name) ≡ Some (name, None)
  pub joined : (text : Text) → long_of (codes "--" ++ name ++ codes "=" ++ text) ≡ Some (name, Some text)
  pub bare_goes_on : bytes_eq (codes "--" ++ name) (codes "--") ≡ false
  pub joined_goes_on : (text : Text) → bytes_eq (codes "--" ++ name ++ codes "=" ++ text) (codes "--") ≡ false

pub record KnowsWord (s : Shape) (name : Text) : Type 0 where
  pub must : Bool
  pub by_index : arg_by_index s.rules 1 ≡ Some (word_rule must name)
  pub by_id : arg_by_id s.rules name ≡ Some (word_rule must name)

pub record KnowsFlag (s : Shape) (name : Text) : Type 0 where
  pub by_long : arg_by_long s.rules name ≡ Some (flag_rule name)
  pub bare : long_of (codes "--" ++ name) ≡ Some (name, None)
  pub bare_goes_on : bytes_eq (codes "--" ++ name) (codes "--") ≡ false

-- the next one that is given has its place
abbrev pub HasItsPlace : Shape → ℕ → Manner → Text → Text → Type 0
HasItsPlace s p in_two_words name text = KnowsOption s name × (can_be_text text ≡ true)
HasItsPlace s p in_one_word name text = KnowsOption s name
HasItsPlace s p by_itself name text = KnowsWord s name × (can_be_text text ≡ true) × (p ≡ 1)
HasItsPlace s p as_flag name text = KnowsFlag s name × (text ≡ codes "true")

abbrev pub place_after : Manner → ℕ → ℕ
place_after in_two_words p = p
place_after in_one_word p = p
place_after by_itself p = 2
place_after as_flag p = p

-- each has its place, in turn, and none has a row yet
abbrev pub AreInTurn : Shape → ℕ → List Row → List Given → Type 0
AreInTurn s p rows [] = ⊤
AreInTurn s p rows (g ∷ rest) =
    HasItsPlace s p g.manner g.name g.text × (has_row g.name rows ≡ false) × AreInTurn s (place_after g.manner p) (rows ++ row_given g ∷ []) rest

-- ---- the walk

module _ (s : Shape) where
  -- what is held comes to these rows, with no fault
  pub record Rests (h : Held) (rows : List Row) : Type 0 where
    pub rows_are : (settled s.rules h).rows ≡ rows
    pub faultless : settle_fault s.rules s.args_override_self h ≡ []

  -- a word's turn
  pub record Turns (w : Walk) (word : Text) (after : Walk) : Type 0 where
    pub next : walked s.rules [] w word ≡ after
    pub faultless : turn_fault s [] w word ≡ []

  -- the name of an option, that waits for its text
  option_turn : (must : Bool) (name word : Text) (h : Held) (p : ℕ) → bytes_eq word (codes "--") ≡ false → long_of word ≡ Some (name, None)
      → arg_by_long s.rules name ≡ Some (option_rule must name) → settle_fault s.rules s.args_override_self h ≡ []
      → Turns (at h p) word (record { held = record h { rows = (settled s.rules h).rows; pending = Some (name, []) }; waiting = option name; position = p; is_trailing = false; stopped = None })
  unfolding walked
  option_turn must name word h p goes_on long known fine = record {
    next = rw (goes_on, long, known);
    faultless = rw (goes_on, long, known, fine);
  }

  -- the text that it waits for
  text_turn : (must : Bool) (name text : Text) (h : Held) (rows : List Row) (p : ℕ) → can_be_text text ≡ true → arg_by_id s.rules name ≡ Some (option_rule must name)
      → Turns (record { held = record h { rows = rows; pending = Some (name, []) }; waiting = option name; position = p; is_trailing = false; stopped = None }) text
      (at (record h { rows = rows; pending = Some (name, text ∷ []) }) p)
  unfolding walked
  text_turn must name text h rows p plain known = record {
    next = rw (no_end text plain, no_long text plain, no_short text plain, known, itself name);
    faultless = rw (no_end text plain, no_long text plain, no_short text plain);
  }

  -- an option in one word with its text
  joined_turn : (must : Bool) (name text word : Text) (h : Held) (rows : List Row) (p : ℕ) → bytes_eq word (codes "--") ≡ false → long_of word ≡ Some (name, Some text)
      → arg_by_long s.rules name ≡ Some (option_rule must name) → Rests h rows → has_row name rows ≡ false
      → Turns (at h p) word (at (record h { rows = rows ++ row_for name text ∷ []; pending = None }) p)
  unfolding walked
  joined_turn must name text word h rows p goes_on long known rests new = record {
    next = rw (goes_on, long, known, rests.rows_are) (ap (λ rs. at (record h { rows = rs; pending = None }) p) (option_used must name text rows new));
    faultless = rw (goes_on, long, known, rests.faultless, rests.rows_are, new);
  }

  -- a word alone
  word_turn : (must : Bool) (name text : Text) (h : Held) → can_be_text text ≡ true → arg_by_index s.rules 1 ≡ Some (word_rule must name) → settle_fault s.rules s.args_override_self h ≡ []
      → Turns (at h 1) text (at (record h { rows = (settled s.rules h).rows; pending = Some (name, text ∷ []) }) 2)
  unfolding walked
  word_turn must name text h plain known fine = record {
    next = rw (no_end text plain, no_long text plain, no_short text plain, known) (ap (λ b. at (pushed name text (cond b h (settled s.rules h))) 2) (and_none (is_pending (word_rule must name) h.pending)));
    faultless = rw (no_end text plain, no_long text plain, no_short text plain, known) (ap (λ b. cond b [] (settle_fault s.rules s.args_override_self h)) (and_none (is_pending (word_rule must name) h.pending)) ∙ fine);
  }

  -- a flag
  flag_turn : (name word : Text) (h : Held) (rows : List Row) (p : ℕ) → bytes_eq word (codes "--") ≡ false → long_of word ≡ Some (name, None)
      → arg_by_long s.rules name ≡ Some (flag_rule name) → Rests h rows → has_row name rows ≡ false
      → Turns (at h p) word (at (record h { rows = rows ++ row_for name (codes "true") ∷ []; pending = None }) p)
  unfolding walked
  flag_turn name word h rows p goes_on long known rests new = record {
    next = rw (goes_on, long, known, rests.rows_are) (ap (λ rs. at (record h { rows = rs; pending = None }) p) (flag_used name rows new));
    faultless = rw (goes_on, long, known, rests.faultless, rests.rows_are, new);
  }

  -- the walk over the words ends between two that are given, with these rows
  pub record Arrives (w : Walk) (words : List Text) (rows : List Row) : Type 0 where
    pub held : Held
    pub position : ℕ
    pub walks : fold (walked s.rules []) w words ≡ at held position
    pub faultless : walk_fault s [] w words ≡ []
    pub rests : Rests held rows

  turned : (w after : Walk) (word : Text) (words : List Text) (rows : List Row) → Turns w word after → Arrives after words rows → Arrives w (word ∷ words) rows
  unfolding walk_fault
  turned w after word words rows turn rest = record {
    held = rest.held;
    position = rest.position;
    walks = ap (λ v. fold (walked s.rules []) v words) turn.next ∙ rest.walks;
    faultless = rw (turn.faultless, turn.next) rest.faultless;
    rests = rest.rests;
  }

  -- what is pending has its row
  option_rests : (must : Bool) (name text : Text) (h : Held) (rows : List Row) → arg_by_id s.rules name ≡ Some (option_rule must name) → has_row name rows ≡ false
      → Rests (record h { rows = rows; pending = Some (name, text ∷ []) }) (rows ++ row_for name text ∷ [])
  option_rests must name text h rows known new = record { rows_are = rw known (option_used must name text rows new); faultless = rw (known, new) }

  word_rests : (must : Bool) (name text : Text) (h : Held) (rows : List Row) → arg_by_id s.rules name ≡ Some (word_rule must name) → has_row name rows ≡ false
      → Rests (record h { rows = rows; pending = Some (name, text ∷ []) }) (rows ++ row_for name text ∷ [])
  word_rests must name text h rows known new = record { rows_are = rw known (word_used must name text rows new); faultless = rw (known, new) }

  one_more : (manner : Manner) (name text : Text) (words : List Text) (h : Held) (p : ℕ) (rows all : List Row) → Rests h rows → HasItsPlace s p manner name text → has_row name rows ≡ false
      → ((k : Held) → Rests k (rows ++ row_for name text ∷ []) → Arrives (at k (place_after manner p)) words all) → Arrives (at h p) (typed_as manner name text ++ words) all
  one_more in_two_words name text words h p rows all rests ready new next =
      let k = ready.0 in
      let now = (settled s.rules h).rows in
      let none : has_row name now ≡ false = ap (has_row name) rests.rows_are ∙ new in
      turned _ _ _ _ all (option_turn k.must name (codes "--" ++ name) h p k.bare_goes_on k.bare k.by_long rests.faultless)
      (turned _ _ _ _ all (text_turn k.must name text h now p ready.1 k.by_id)
      (next (record h { rows = now; pending = Some (name, text ∷ []) })
      (subst (λ rs. Rests (record h { rows = now; pending = Some (name, text ∷ []) }) (rs ++ row_for name text ∷ [])) rests.rows_are (option_rests k.must name text h now k.by_id none))))
  one_more in_one_word name text words h p rows all rests ready new next =
      turned _ _ _ _ all (joined_turn ready.must name text (codes "--" ++ name ++ codes "=" ++ text) h rows p (ready.joined_goes_on text) (ready.joined text) ready.by_long rests new)
      (next (record h { rows = rows ++ row_for name text ∷ []; pending = None }) (record { rows_are = refl; faultless = refl }))
  one_more by_itself name text words h p rows all rests ready new next =
      let k = ready.0 in
      let now = (settled s.rules h).rows in
      let none : has_row name now ≡ false = ap (has_row name) rests.rows_are ∙ new in
      subst (λ n. Arrives (at h n) (text ∷ words) all) (sym ready.2)
      (turned _ _ _ _ all (word_turn k.must name text h ready.1 k.by_index rests.faultless)
      (next (record h { rows = now; pending = Some (name, text ∷ []) })
      (subst (λ rs. Rests (record h { rows = now; pending = Some (name, text ∷ []) }) (rs ++ row_for name text ∷ [])) rests.rows_are (word_rests k.must name text h now k.by_id none))))
  one_more as_flag name text words h p rows all rests ready new next =
      let k = ready.0 in
      let row_is : row_for name (codes "true") ≡ row_for name text = ap (row_for name) (sym ready.1) in
      turned _ _ _ _ all (flag_turn name (codes "--" ++ name) h rows p k.bare_goes_on k.bare k.by_long rests new)
      (next (record h { rows = rows ++ row_for name (codes "true") ∷ []; pending = None })
      (subst (λ r. Rests (record h { rows = rows ++ row_for name (codes "true") ∷ []; pending = None }) (rows ++ r ∷ [])) row_is (record { rows_are = refl; faultless = refl })))

  pub arrives : (given : List Given) (h : Held) (p : ℕ) (rows : List Row) → Rests h rows → AreInTurn s p rows given → Arrives (at h p) (typed given) (rows ++ map row_given given)
  unfolding walk_fault
  arrives [] h p rows rests runs = record { held = h; position = p; walks = refl; faultless = refl; rests = subst (Rests h) (sym (append-nil rows)) rests }
  arrives (g ∷ rest) h p rows rests runs =
      one_more g.manner g.name g.text (typed rest) h p rows _ rests runs.0 runs.1
      (λ k r. subst (λ rs. Arrives (at k (place_after g.manner p)) (typed rest) rs) (append_assoc rows (row_given g ∷ []) (map row_given rest))
      (arrives rest k (place_after g.manner p) (rows ++ row_given g ∷ []) r runs.2))

-- ---- a whole level

-- the argument has no default values, or has some that are no fault
abbrev pub has_fine_default : Rule → Bool
has_fine_default a = is_empty a.defaults || is_bare (given_default_fault a a.defaults)

-- the settings of a command of whose words the walk alone decides
pub record IsPlainLevel (s : Shape) : Type 0 where
  pub no_help_wanted : s.arg_required_else_help ≡ false
  pub no_command_wanted : s.subcommand_required ≡ false
  pub fine_defaults : list_all has_fine_default s.rules ≡ true

default_fine : (rows : List Row) (a : Rule) → has_fine_default a ≡ true → default_fault rows a ≡ []
default_fine rows a fine = go (has_row a.id rows) (is_empty a.defaults) (given_default_fault a a.defaults) fine
  where
    go : (has none : Bool) (kinds : Kinds) → (none || is_bare kinds) ≡ true → cond (has || none) [] kinds ≡ []
    go true none kinds h = refl
    go false true kinds h = refl
    go false false [] h = refl
    go false false (k ∷ ks) h = absurd (true≢false (sym h))

defaults_fine : (rules : List Rule) (rows : List Row) → list_all has_fine_default rules ≡ true → defaults_fault rows rules ≡ []
unfolding defaults_fault
defaults_fine [] rows fine = refl
defaults_fine (a ∷ rest) rows fine =
    let parts = both (has_fine_default a) (list_all has_fine_default rest) fine in
    rw (default_fine rows a parts.0) (defaults_fine rest (with_default rows a) parts.1)

-- a required argument has no row
abbrev pub lacks_one : Shape → List Row → Bool
lacks_one s rows = list_any (λ a. a.required && not (is_given a.id rows)) s.rules

-- the last check's fault, by whether one is lacking
abbrev pub missing_fault : Bool → Kinds
missing_fault lacks = cond lacks (MissingRequiredArgument ∷ []) []

not_and_none : (b x : Bool) → (not (b && false) && x) ≡ x
not_and_none true x = refl
not_and_none false x = refl

nothing_else : (kinds : Kinds) → or_else kinds [] ≡ kinds
nothing_else [] = refl
nothing_else (k ∷ ks) = refl

module _ (s : Shape) (plain : IsPlainLevel s) (words : List Text) (rows : List Row) (came : Arrives s (at nothing_held 1) words rows) where
  pub level_rows : (finished s.rules (walk s.rules [] nothing_held words).held) ≡ with_defaults s.rules rows
  level_rows = rw (came.walks, came.rests.rows_are)

  pub level_fault_is : (lacks : Bool) → lacks_one s (with_defaults s.rules rows) ≡ lacks → level_fault s [] nothing_held words false [] ≡ missing_fault lacks
  level_fault_is lacks is =
      let checked : check_fault s (with_defaults s.rules rows) false ≡ missing_fault lacks = rw (plain.no_help_wanted, plain.no_command_wanted, is) (ap missing_fault (not_and_none s.subcommand_negates_reqs lacks)) in
      rw (came.faultless, came.walks, came.rests.faultless, came.rests.rows_are, defaults_fine s.rules rows plain.fine_defaults) checked

-- ---- the program

-- the word calls a subcommand of the command, which is built
pub record CallsBuilt (a : App) (name : Text) (s : Shape) : Type 0 where
  pub next : walked a.top.rules (names_of a) (walk_from nothing_held) name ≡ record (walk_from nothing_held) { stopped = Some (name, []) }
  pub faultless : turn_fault a.top (names_of a) (walk_from nothing_held) name ≡ []
  pub found : find (λ x. answers_to name (label_of x)) a.subs ≡ Some s
  pub fine_defaults : list_all has_fine_default a.top.rules ≡ true
  pub checked : check_fault a.top (with_defaults a.top.rules []) true ≡ []

module _ (a : App) (name : Text) (s : Shape) (calls : CallsBuilt a name s) (words : List Text) where
  stops : walk a.top.rules (names_of a) nothing_held (name ∷ words) ≡ record (walk_from nothing_held) { stopped = Some (name, words) }
  stops = ap (λ w. fold (walked a.top.rules (names_of a)) w words) calls.next ∙ sym (walk_stopped a.top.rules (names_of a) (walk_from nothing_held) name [] words)

  pub enters : entered a (stop_after a.top.rules (names_of a) (name ∷ words)) ≡ Some (rows_at s words)
  enters = ap (λ (w : Walk). entered a w.stopped) stops ∙ rw calls.found

  walk_fine : walk_fault a.top (names_of a) (walk_from nothing_held) (name ∷ words) ≡ []
  unfolding walk_fault
  walk_fine = rw (calls.faultless, calls.next) (stopped_fault a.top (names_of a) (walk_from nothing_held) (name, []) words)

  pub call_fault_is : built_fault a nothing_held (name ∷ words) ≡ level_fault s [] nothing_held words false []
  call_fault_is =
      rw (walk_fine, stops, calls.found, defaults_fine a.top.rules [] calls.fine_defaults, calls.checked) (nothing_else (level_fault s [] nothing_held words false []))
