-- What the program has for each name of its commands, and that they are understood.
use Rattle.std.proofs.Common.{◌≡◌, ◌∙◌, Bool, cond, refl, true, false, codes, ap, arith, [], ◌∷◌, ◌++◌, Option, Some, None}
use Rattle.std.specs.Prelude.{option_and_then, option_map, slice_get, unwrap_or}
use Rattle.std.specs.List.{IsDistinct, find}
use Rattle.std.specs.Option.{option_or}
use Rattle.clap.proofs.OnLiterals.{clap_on_literals}
use Rattle.clap.specs.Lexer.{long_of}
use Rattle.std.specs.Str.{bytes_eq}
use Rattle.clap.specs.Walk.{Rule, answers_to, arg_by_id, arg_by_long}
use Rattle.clap.specs.Simple.{App, Shape, built, label_of}
use Rattle.command_lines.specs.CommandLine.{AsksVerify, build_line, digest_line, get_line, program_line, put_line, serve_line, verify_line, option_text, options_of}
use Rattle.command_lines.specs.Given.{CanBeTexts, CanTake, Given, MissesNeeded, IsUnderstood, given_text, in_two_words, usual_text, verify_in_two}
use Rattle.clap.specs.Words.{Text}
use Rattle.command_lines.proofs.Walking.{CallsBuilt, IsPlainLevel, KnowsOption, flag_rule, option_rule}
use Rattle.command_lines.proofs.Understood.{Knows, missed, understood}

-- the command as the program's building leaves it
abbrev pub built_in_program : App → Shape
built_in_program line = unwrap_or (find (λ s. answers_to line.top.name (label_of s)) (built program_line).subs) line.top

-- the facts of an option, in a row
knows : (s : Shape) (must : Bool) (name : Text) → arg_by_long s.rules name ≡ Some (option_rule must name) → arg_by_id s.rules name ≡ Some (option_rule must name)
    → long_of (codes "--" ++ name) ≡ Some (name, None) → ((text : Text) → long_of (codes "--" ++ name ++ codes "=" ++ text) ≡ Some (name, Some text))
    → bytes_eq (codes "--" ++ name) (codes "--") ≡ false → ((text : Text) → bytes_eq (codes "--" ++ name ++ codes "=" ++ text) (codes "--") ≡ false)
    → KnowsOption s name
knows s must name by_long by_id bare joined bare_goes_on joined_goes_on = record {
  must = must;
  by_long = by_long;
  by_id = by_id;
  bare = bare;
  joined = joined;
  bare_goes_on = bare_goes_on;
  joined_goes_on = joined_goes_on;
}

-- what a flag is without its word
usually : (name : Text) (b : Bool) → option_and_then (λ (a : Rule). slice_get a.defaults 0) (cond b (Some (flag_rule name)) None) ≡ option_map (λ (n : Text). codes "false") (cond b (Some name) None)
usually name true = refl
usually name false = refl

-- ---- verify

verify_knows : Knows verify_line (built_in_program verify_line)
verify_knows = record {
  options = (
    knows (built_in_program verify_line) false (codes "server") refl refl refl (λ t. refl) refl (λ t. refl),
    (
      knows (built_in_program verify_line) false (codes "store") refl refl refl (λ t. refl) refl (λ t. refl),
      (
        knows (built_in_program verify_line) false (codes "results") refl refl refl (λ t. refl) refl (λ t. refl),
        (
          knows (built_in_program verify_line) false (codes "prefix") refl refl refl (λ t. refl) refl (λ t. refl),
          (
            knows (built_in_program verify_line) false (codes "timeout") refl refl refl (λ t. refl) refl (λ t. refl),
            (
              knows (built_in_program verify_line) false (codes "sources") refl refl refl (λ t. refl) refl (λ t. refl),
              (
                knows (built_in_program verify_line) false (codes "plan") refl refl refl (λ t. refl) refl (λ t. refl),
                (
                  knows (built_in_program verify_line) false (codes "record") refl refl refl (λ t. refl) refl (λ t. refl),
                  (
                    knows (built_in_program verify_line) false (codes "claim") refl refl refl (λ t. refl) refl (λ t. refl),
                    (
                      knows (built_in_program verify_line) false (codes "artifact") refl refl refl (λ t. refl) refl (λ t. refl),
                      (
                        knows (built_in_program verify_line) false (codes "keep") refl refl refl (λ t. refl) refl (λ t. refl),
                        tt,
                      ),
                    ),
                  ),
                ),
              ),
            ),
          ),
        ),
      ),
    ),
  );
  words = (record { must = false; by_index = refl; by_id = refl }, tt);
  flags = (record { by_long = refl; bare = refl; bare_goes_on = refl }, tt);
  usual = λ name. usually (codes "no-bits") (bytes_eq (codes "no-bits") name);
  needs = λ there. refl;
}

verify_calls : CallsBuilt (built program_line) (codes "verify") (built_in_program verify_line)
unfolding clap_on_literals
verify_calls = record { next = refl; faultless = refl; found = refl; fine_defaults = refl; checked = refl }

verify_plain : IsPlainLevel (built_in_program verify_line)
verify_plain = record { no_help_wanted = refl; no_command_wanted = refl; fine_defaults = refl }

pub verify_understood : IsUnderstood verify_line
verify_understood = understood verify_line (built_in_program verify_line) verify_knows verify_plain verify_calls refl

-- ---- serve

serve_knows : Knows serve_line (built_in_program serve_line)
serve_knows = record {
  options = (
    knows (built_in_program serve_line) true (codes "listen") refl refl refl (λ t. refl) refl (λ t. refl),
    (
      knows (built_in_program serve_line) true (codes "limit") refl refl refl (λ t. refl) refl (λ t. refl),
      (
        knows (built_in_program serve_line) true (codes "result-limit") refl refl refl (λ t. refl) refl (λ t. refl),
        (
          knows (built_in_program serve_line) false (codes "prefix") refl refl refl (λ t. refl) refl (λ t. refl),
          (
            knows (built_in_program serve_line) false (codes "idle") refl refl refl (λ t. refl) refl (λ t. refl),
            (
              knows (built_in_program serve_line) false (codes "at-once") refl refl refl (λ t. refl) refl (λ t. refl),
              (
                knows (built_in_program serve_line) false (codes "connections") refl refl refl (λ t. refl) refl (λ t. refl),
                tt,
              ),
            ),
          ),
        ),
      ),
    ),
  );
  words = tt;
  flags = tt;
  usual = λ name. refl;
  needs = λ there. refl;
}

serve_calls : CallsBuilt (built program_line) (codes "serve") (built_in_program serve_line)
unfolding clap_on_literals
serve_calls = record { next = refl; faultless = refl; found = refl; fine_defaults = refl; checked = refl }

serve_plain : IsPlainLevel (built_in_program serve_line)
serve_plain = record { no_help_wanted = refl; no_command_wanted = refl; fine_defaults = refl }

pub serve_understood : IsUnderstood serve_line
serve_understood = understood serve_line (built_in_program serve_line) serve_knows serve_plain serve_calls refl

pub serve_missed : MissesNeeded serve_line
serve_missed = missed serve_line (built_in_program serve_line) serve_knows serve_plain serve_calls

-- ---- put

put_knows : Knows put_line (built_in_program put_line)
put_knows = record {
  options = (
    knows (built_in_program put_line) true (codes "server") refl refl refl (λ t. refl) refl (λ t. refl),
    (
      knows (built_in_program put_line) false (codes "prefix") refl refl refl (λ t. refl) refl (λ t. refl),
      (
        knows (built_in_program put_line) false (codes "timeout") refl refl refl (λ t. refl) refl (λ t. refl),
        tt,
      ),
    ),
  );
  words = (record { must = true; by_index = refl; by_id = refl }, tt);
  flags = tt;
  usual = λ name. refl;
  needs = λ there. refl;
}

put_calls : CallsBuilt (built program_line) (codes "put") (built_in_program put_line)
unfolding clap_on_literals
put_calls = record { next = refl; faultless = refl; found = refl; fine_defaults = refl; checked = refl }

put_plain : IsPlainLevel (built_in_program put_line)
put_plain = record { no_help_wanted = refl; no_command_wanted = refl; fine_defaults = refl }

pub put_understood : IsUnderstood put_line
put_understood = understood put_line (built_in_program put_line) put_knows put_plain put_calls refl

pub put_missed : MissesNeeded put_line
put_missed = missed put_line (built_in_program put_line) put_knows put_plain put_calls

-- ---- get

get_knows : Knows get_line (built_in_program get_line)
get_knows = record {
  options = (
    knows (built_in_program get_line) true (codes "server") refl refl refl (λ t. refl) refl (λ t. refl),
    (
      knows (built_in_program get_line) false (codes "prefix") refl refl refl (λ t. refl) refl (λ t. refl),
      (
        knows (built_in_program get_line) false (codes "timeout") refl refl refl (λ t. refl) refl (λ t. refl),
        (
          knows (built_in_program get_line) false (codes "into") refl refl refl (λ t. refl) refl (λ t. refl),
          tt,
        ),
      ),
    ),
  );
  words = (record { must = true; by_index = refl; by_id = refl }, tt);
  flags = tt;
  usual = λ name. refl;
  needs = λ there. refl;
}

get_calls : CallsBuilt (built program_line) (codes "get") (built_in_program get_line)
unfolding clap_on_literals
get_calls = record { next = refl; faultless = refl; found = refl; fine_defaults = refl; checked = refl }

get_plain : IsPlainLevel (built_in_program get_line)
get_plain = record { no_help_wanted = refl; no_command_wanted = refl; fine_defaults = refl }

pub get_understood : IsUnderstood get_line
get_understood = understood get_line (built_in_program get_line) get_knows get_plain get_calls refl

pub get_missed : MissesNeeded get_line
get_missed = missed get_line (built_in_program get_line) get_knows get_plain get_calls

-- ---- digest

digest_knows : Knows digest_line (built_in_program digest_line)
digest_knows = record {
  options = tt;
  words = (record { must = true; by_index = refl; by_id = refl }, tt);
  flags = (record { by_long = refl; bare = refl; bare_goes_on = refl }, tt);
  usual = λ name. usually (codes "no-bits") (bytes_eq (codes "no-bits") name);
  needs = λ there. refl;
}

digest_calls : CallsBuilt (built program_line) (codes "digest") (built_in_program digest_line)
unfolding clap_on_literals
digest_calls = record { next = refl; faultless = refl; found = refl; fine_defaults = refl; checked = refl }

digest_plain : IsPlainLevel (built_in_program digest_line)
digest_plain = record { no_help_wanted = refl; no_command_wanted = refl; fine_defaults = refl }

pub digest_understood : IsUnderstood digest_line
digest_understood = understood digest_line (built_in_program digest_line) digest_knows digest_plain digest_calls refl

pub digest_missed : MissesNeeded digest_line
digest_missed = missed digest_line (built_in_program digest_line) digest_knows digest_plain digest_calls

-- ---- build

build_knows : Knows build_line (built_in_program build_line)
build_knows = record {
  options = (
    knows (built_in_program build_line) true (codes "server") refl refl refl (λ t. refl) refl (λ t. refl),
    (
      knows (built_in_program build_line) false (codes "prefix") refl refl refl (λ t. refl) refl (λ t. refl),
      (
        knows (built_in_program build_line) false (codes "timeout") refl refl refl (λ t. refl) refl (λ t. refl),
        (
          knows (built_in_program build_line) true (codes "sources") refl refl refl (λ t. refl) refl (λ t. refl),
          (
            knows (built_in_program build_line) true (codes "plan") refl refl refl (λ t. refl) refl (λ t. refl),
            (
              knows (built_in_program build_line) true (codes "record") refl refl refl (λ t. refl) refl (λ t. refl),
              (
                knows (built_in_program build_line) true (codes "work") refl refl refl (λ t. refl) refl (λ t. refl),
                (
                  knows (built_in_program build_line) false (codes "jobs") refl refl refl (λ t. refl) refl (λ t. refl),
                  tt,
                ),
              ),
            ),
          ),
        ),
      ),
    ),
  );
  words = tt;
  flags = (record { by_long = refl; bare = refl; bare_goes_on = refl }, tt);
  usual = λ name. usually (codes "verbose") (bytes_eq (codes "verbose") name);
  needs = λ there. refl;
}

build_calls : CallsBuilt (built program_line) (codes "build") (built_in_program build_line)
unfolding clap_on_literals
build_calls = record { next = refl; faultless = refl; found = refl; fine_defaults = refl; checked = refl }

build_plain : IsPlainLevel (built_in_program build_line)
build_plain = record { no_help_wanted = refl; no_command_wanted = refl; fine_defaults = refl }

pub build_understood : IsUnderstood build_line
build_understood = understood build_line (built_in_program build_line) build_knows build_plain build_calls refl

pub build_missed : MissesNeeded build_line
build_missed = missed build_line (built_in_program build_line) build_knows build_plain build_calls

-- ---- an example

or_nothing : (o : Option Text) → option_or o None ≡ o
or_nothing None = refl
or_nothing (Some x) = refl

in_two : Text → Text → Given
in_two name text = record { name = name; text = text; manner = in_two_words }

pub verify_in_two_understood : (store sources plan noted claim : Text) → CanBeTexts (store ∷ sources ∷ plan ∷ noted ∷ claim ∷ [])
    → AsksVerify (verify_in_two store sources plan noted claim) store sources plan noted claim
unfolding in_two IsDistinct
verify_in_two_understood store sources plan noted claim texts =
    let given = in_two (codes "store") store ∷ in_two (codes "sources") sources ∷ in_two (codes "plan") plan ∷ in_two (codes "record") noted ∷ in_two (codes "claim") claim ∷ [] in
    let takes : CanTake verify_line given = record {
      places = record {
        known = (
          ((1, omega arith, refl), texts.0),
          (
            ((5, omega arith, refl), texts.1.0),
            (
              ((6, omega arith, refl), texts.1.1.0),
              (
                ((7, omega arith, refl), texts.1.1.1.0),
                (((8, omega arith, refl), texts.1.1.1.1.0), tt),
              ),
            ),
          ),
        );
        once = ((refl, (refl, (refl, (refl, tt)))), ((refl, (refl, (refl, tt))), ((refl, (refl, tt)), ((refl, tt), (tt, tt)))));
      };
      whole = tt;
    } in
    let asks = verify_understood given takes in
    let text_is : (name : Text) → usual_text verify_line name ≡ None → option_text (options_of (verify_in_two store sources plan noted claim)) name ≡ unwrap_or (given_text name given) [] =
    λ name no_flag. ap (λ o. unwrap_or o []) (asks.texts_are name ∙ ap (option_or (given_text name given)) no_flag ∙ or_nothing (given_text name given)) in
    record {
      called = asks.called;
      plain = asks.texts_are (codes "evidence");
      store_is = text_is (codes "store") refl;
      sources_are = text_is (codes "sources") refl;
      plan_is = text_is (codes "plan") refl;
      noted_is = text_is (codes "record") refl;
      claim_is = text_is (codes "claim") refl;
    }
