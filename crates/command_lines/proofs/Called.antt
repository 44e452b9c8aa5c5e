-- Words that aren't at fault call one of the program's commands.
use Rattle.std.proofs.Common.{◌≡◌, ◌&&◌, ◌⊎◌, Bool, cond, true, false, not, inl, inr, refl, codes, List, [], ◌∷◌, Option, Some, None, is_some}
use Rattle.std.specs.Prelude.{IfSome, option_map}
use Rattle.std.specs.List.{AllByRecursion, find, list_any}
use Rattle.clap.proofs.OnLiterals.{clap_on_literals}
use Rattle.clap.specs.Facts.{explicit_source}
use Rattle.clap.specs.Kinds.{Kinds, check_kinds, or_else}
use Rattle.clap.specs.Faults.{check_fault, defaults_fault, level_fault, settle_fault, walk_fault}
use Rattle.clap.specs.Simple.{App, Shape, argument_words, built, entered, label_of, names_of, rows_at}
use Rattle.clap.specs.Takes.{is_given}
use Rattle.clap.specs.Walk.{Held, Names, Row, Rule, answers_to, finished, nothing_held, settled, stop_after, walk, walk_from}
use Rattle.clap.specs.Words.{Text, fault_of}
use Rattle.command_lines.specs.CommandLine.{CallsCommand, program_line}

-- the name of one of the commands
abbrev pub IsOne : Text → Type 0
IsOne name = (name ≡ codes "serve") ⊎ ((name ≡ codes "verify") ⊎ ((name ≡ codes "put") ⊎ ((name ≡ codes "get") ⊎ ((name ≡ codes "digest") ⊎ ((name ≡ codes "build") ⊎ (name ≡ codes "compare"))))))

pub record CallsOne (words : List Text) : Type 0 where
  pub name : Text
  pub one : IsOne name
  pub called : CallsCommand words name

none_after : (a b : Kinds) → or_else a b ≡ [] → b ≡ []
none_after [] b h = h
none_after (k ∷ ks) b h = cc

has_command : (has x y z : Bool) → y ≡ true → check_kinds (not has && x) (not has && y) z ≡ [] → has ≡ true
has_command true x y z required h = refl
has_command false true y z required h = cc
has_command false false true z required h = cc
has_command false false false z required h = cc

found_is : (Q : Shape → Type 0) (P : Shape → Bool) (xs : List Shape) → AllByRecursion Q xs → IfSome (find P xs) Q
found_is Q P [] all = tt
found_is Q P (x ∷ xs) all = go (P x) (found_is Q P xs all.1)
  where
    go : (b : Bool) → IfSome (find P xs) Q → IfSome (cond b (Some x) (find P xs)) Q
    go true rest = all.0
    go false rest = rest

named : (o : Option Shape) (words : List Text) → IfSome o (λ s. IsOne s.name) → is_some (option_map (λ s. rows_at s words) o) ≡ true
    → (name : Text) × IsOne name × (option_map (λ (p : Text × List Row). p.0) (option_map (λ s. rows_at s words) o) ≡ Some name)
named (Some s) words is has = (s.name, is, refl)
named None words is has = cc

module _ (a : App) (all : AllByRecursion (λ s. IsOne s.name) a.subs) where
  entered_one : (stop : Option (Text × List Text)) → is_some (entered a stop) ≡ true
      → (name : Text) × IsOne name × (option_map (λ (p : Text × List Row). p.0) (entered a stop) ≡ Some name)
  entered_one (Some p) has = named (find (λ s. answers_to p.0 (label_of s)) a.subs) p.1 (found_is (λ s. IsOne s.name) (λ s. answers_to p.0 (label_of s)) a.subs all) has
  entered_one None has = cc

level_checked : (s : Shape) (names : Names) (h : Held) (words : List Text) (has : Bool) (below : Kinds) → s.subcommand_required ≡ true → level_fault s names h words has below ≡ [] → has ≡ true
level_checked s names h words has below required none =
    let end = (walk s.rules names h words).held in
    let rows = finished s.rules end in
    let checks = check_fault s rows has in
    let defaults = defaults_fault (settled s.rules end).rows s.rules in
    let settles = settle_fault s.rules s.args_override_self end in
    let checked : checks ≡ [] = none_after defaults checks (none_after settles (or_else defaults checks) (none_after below (or_else settles (or_else defaults checks))
    (none_after (walk_fault s names (walk_from h) words) (or_else below (or_else settles (or_else defaults checks))) none))) in
    has_command has (s.arg_required_else_help && not (list_any (λ (r : Row). explicit_source r.source) rows)) s.subcommand_required
    (not (s.subcommand_negates_reqs && has) && list_any (λ (a : Rule). a.required && not (is_given a.id rows)) s.rules) required checked

all_named : AllByRecursion (λ s. IsOne s.name) (built program_line).subs
unfolding clap_on_literals
all_named = (inl refl, (inr (inl refl), (inr (inr (inl refl)), (inr (inr (inr (inl refl))), (inr (inr (inr (inr (inl refl)))), (inr (inr (inr (inr (inr (inl refl))))), (inr (inr (inr (inr (inr (inr refl))))), tt)))))))

command_required : (built program_line).top.subcommand_required ≡ true
unfolding clap_on_literals
command_required = refl

pub calls_one : (words : List Text) → fault_of program_line words ≡ [] → CallsOne words
calls_one words none =
    let a = built program_line in
    let stop = stop_after a.top.rules (names_of a) (argument_words program_line words) in
    let has = level_checked a.top (names_of a) nothing_held (argument_words program_line words) (is_some (entered a stop)) _ command_required none in
    let one = entered_one a all_named stop has in
    record { name = one.0; one = one.1; called = record { faultless = none; command_is = one.2 } }
