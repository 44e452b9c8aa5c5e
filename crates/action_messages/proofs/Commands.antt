-- A command's fields that were checked keep the rules, and what keeps them is taken.
use Rattle.std.proofs.Common.{◌≡◌, ◌≢◌, ℕ, ◌<◌, Bool, true, false, eqb, not, ◌&&◌, List, [], ◌∷◌, length, Option, Some, None, Result, Ok, Err, refl, sym, ap, subst, ◌∙◌, arith}
use Rattle.std.specs.Prelude.{◌↔◌, IsOk, IfOk, IfSome}
use Rattle.std.specs.List.{AllByRecursion, list_all}
use Rattle.std.proofs.lemmas.Bool.Decides.{nat_tests}
use Rattle.wire.specs.Steps.{Gives}
use Rattle.wire.proofs.Steps.{bind_ok, ok_is}
use Rattle.messages.specs.declared.error.MessageError.{MessageError}
use Rattle.messages.specs.declared.error.MessageError.TheVariants.{BadText, SameName}
use Rattle.messages.specs.Order.{bytes_cmp, IsAscending, ordered_behind}
use Rattle.messages.specs.Path.{IsPath, parts_of, path_of, path_text}
use Rattle.messages.proofs.Choices.{and_first, and_second, and_both, not_true, false_not, none_is, none_found}
use Rattle.messages.proofs.Orders.{ascending, ordered_behind-from}
use Rattle.messages.proofs.Paths.{path_found, path_given, parts_of_path}
use Rattle.action_messages.specs.Fields.{refused_unless}
use Rattle.action_messages.specs.Ascending.{IsAscendingBy, ascending_behind}
use Rattle.action_messages.specs.Overlaps.{some_under, texts_of}
use Rattle.action_messages.specs.Setting.{SettingValue, IsSetting}
use Rattle.action_messages.specs.Command.{CommandValue, IsText, NamesProgram, IsVariable, variable_names, IsCommand, directory_text, has_byte, is_argument, are_arguments, is_variable_name, is_variable, some_argument, texts_checked, lists_checked, command_of, working_directory_of}
use Rattle.action_messages.proofs.Strings.{IsString}
use Rattle.action_messages.proofs.Sorted as sorted
use Rattle.action_messages.proofs.Searches.{bytes_trans}
use Rattle.action_messages.proofs.Apart.{none_under, under_none, apart_within, within_apart, weaker}

pub unless_ok : (b : Bool) (e : MessageError) → refused_unless b e ≡ Ok tt → b ≡ true
unless_ok true e h = refl
unless_ok false e h = absurd cc

some_byte : (n : ℕ) → not (eqb n 0) ≡ true → 0 < n
some_byte n h = grind (arith, nat_tests)

byte_some : (n : ℕ) → 0 < n → not (eqb n 0) ≡ true
byte_some n h = grind (arith, nat_tests)

no_byte : (c : ℕ) (text : List ℕ) → not (has_byte c text) ≡ true → AllByRecursion (λ b. b ≢ c) text
no_byte c text h = none_is c text (not_true (has_byte c text) h)

byte_not : (c : ℕ) (text : List ℕ) → AllByRecursion (λ b. b ≢ c) text → not (has_byte c text) ≡ true
byte_not c text h = false_not (has_byte c text) (none_found c text h)

-- ---- arguments

texts_valid : (texts : List (List ℕ)) → AllByRecursion IsString texts → list_all is_argument texts ≡ true → AllByRecursion IsText texts
texts_valid [] utf8 h = tt
texts_valid (text ∷ texts) utf8 h =
    (record { utf8 = utf8.0; no_nul = no_byte 0 text (and_first (is_argument text) (list_all is_argument texts) h) }, texts_valid texts utf8.1 (and_second (is_argument text) (list_all is_argument texts) h))

valid_texts : (texts : List (List ℕ)) → AllByRecursion IsText texts → list_all is_argument texts ≡ true
valid_texts [] h = refl
valid_texts (text ∷ texts) h = and_both (is_argument text) (list_all is_argument texts) (byte_not 0 text h.0.no_nul) (valid_texts texts h.1)

arguments_valid : (arguments : List (List ℕ)) → AllByRecursion IsString arguments → some_argument arguments ≡ Ok tt → are_arguments arguments ≡ true → NamesProgram arguments × AllByRecursion IsText arguments
arguments_valid [] utf8 some h = absurd cc
arguments_valid (program ∷ arguments) utf8 some h =
    (some_byte (length program) (and_first (not (eqb (length program) 0)) (list_all is_argument (program ∷ arguments)) h), texts_valid (program ∷ arguments) utf8 (and_second (not (eqb (length program) 0)) (list_all is_argument (program ∷ arguments)) h))

valid_arguments : (arguments : List (List ℕ)) → NamesProgram arguments → AllByRecursion IsText arguments → (some_argument arguments ≡ Ok tt) × (are_arguments arguments ≡ true)
valid_arguments [] program h = absurd program
valid_arguments (first ∷ arguments) program h = (refl, and_both (not (eqb (length first) 0)) (list_all is_argument (first ∷ arguments)) (byte_some (length first) program) (valid_texts (first ∷ arguments) h))

-- ---- variables

variable_valid : (v : SettingValue) → IsSetting v → is_variable v ≡ true → IsVariable v
variable_valid v is h =
    let name = and_first (is_variable_name v.name) (not (has_byte 0 v.value)) h in
    let front = and_first (not (eqb (length v.name) 0) && not (has_byte 61 v.name)) (not (has_byte 0 v.name)) name in
    record {
      name = record { utf8 = is.name; no_nul = no_byte 0 v.name (and_second (not (eqb (length v.name) 0) && not (has_byte 61 v.name)) (not (has_byte 0 v.name)) name) };
      some = some_byte (length v.name) (and_first (not (eqb (length v.name) 0)) (not (has_byte 61 v.name)) front);
      no_equals = no_byte 61 v.name (and_second (not (eqb (length v.name) 0)) (not (has_byte 61 v.name)) front);
      value = record { utf8 = is.value; no_nul = no_byte 0 v.value (and_second (is_variable_name v.name) (not (has_byte 0 v.value)) h) };
    }

valid_variable : (v : SettingValue) → IsVariable v → is_variable v ≡ true
valid_variable v h =
    and_both (is_variable_name v.name) (not (has_byte 0 v.value))
    (and_both (not (eqb (length v.name) 0) && not (has_byte 61 v.name)) (not (has_byte 0 v.name))
    (and_both (not (eqb (length v.name) 0)) (not (has_byte 61 v.name)) (byte_some (length v.name) h.some) (byte_not 61 v.name h.no_equals))
    (byte_not 0 v.name h.name.no_nul))
    (byte_not 0 v.value h.value.no_nul)

variables_valid : (vs : List SettingValue) → AllByRecursion IsSetting vs → list_all is_variable vs ≡ true → AllByRecursion IsVariable vs
variables_valid [] is h = tt
variables_valid (v ∷ vs) is h = (variable_valid v is.0 (and_first (is_variable v) (list_all is_variable vs) h), variables_valid vs is.1 (and_second (is_variable v) (list_all is_variable vs) h))

valid_variables : (vs : List SettingValue) → AllByRecursion IsVariable vs → list_all is_variable vs ≡ true
valid_variables [] h = refl
valid_variables (v ∷ vs) h = and_both (is_variable v) (list_all is_variable vs) (valid_variable v h.0) (valid_variables vs h.1)

pub settings_of : (vs : List SettingValue) → AllByRecursion IsVariable vs → AllByRecursion IsSetting vs
settings_of vs h = weaker IsVariable IsSetting (λ v is. record { name = is.name.utf8; value = is.value.utf8 }) vs h

pub strings_of : (texts : List (List ℕ)) → AllByRecursion IsText texts → AllByRecursion IsString texts
strings_of texts h = weaker IsText IsString (λ t is. is.utf8) texts h

-- ---- all fields

pub record AreTexts (texts : List (List ℕ)) (variables : List SettingValue) : Type 0 where
  pub program : NamesProgram texts
  pub arguments : AllByRecursion IsText texts
  pub environment : AllByRecursion IsVariable variables

pub texts_found : (arguments : List (List ℕ)) (environment : List SettingValue) → AllByRecursion IsString arguments → AllByRecursion IsSetting environment → texts_checked arguments environment ≡ Ok tt → AreTexts arguments environment
unfolding texts_checked
texts_found arguments environment utf8 is e =
    let a = bind_ok (some_argument arguments) _ tt e in
    let b = bind_ok (refused_unless (are_arguments arguments) (BadText 1)) (λ _. refused_unless (list_all is_variable environment) (BadText 2)) tt a.2 in
    let l = arguments_valid arguments utf8 a.1 (unless_ok (are_arguments arguments) (BadText 1) b.1) in
    record { program = l.0; arguments = l.1; environment = variables_valid environment is (unless_ok (list_all is_variable environment) (BadText 2) b.2) }

pub texts_given : (arguments : List (List ℕ)) (environment : List SettingValue) → AreTexts arguments environment → texts_checked arguments environment ≡ Ok tt
unfolding texts_checked
texts_given arguments environment h =
    let a = valid_arguments arguments h.program h.arguments in
    let v = valid_variables environment h.environment in
    rw (a.0, a.1, v) refl

pub record AreLists (environment : List SettingValue) (output_paths : List (List (List ℕ))) : Type 0 where
  pub names : IsAscending (variable_names environment)
  pub outputs : IsAscendingBy bytes_cmp (texts_of output_paths)
  pub under : some_under (texts_of output_paths) (texts_of output_paths) ≡ false

pub lists_found : (environment : List SettingValue) (output_paths : List (List (List ℕ))) → lists_checked environment output_paths ≡ Ok tt → AreLists environment output_paths
unfolding lists_checked
lists_found environment output_paths e =
    let a = bind_ok (ordered_behind None (variable_names environment)) _ tt e in
    let b = bind_ok (ascending_behind bytes_cmp None (texts_of output_paths)) (λ _. refused_unless (not (some_under (texts_of output_paths) (texts_of output_paths))) SameName) tt a.2 in
    record {
      names = ascending (variable_names environment) a.1;
      outputs = sorted.ascending bytes_cmp bytes_trans (texts_of output_paths) b.1;
      under = not_true (some_under (texts_of output_paths) (texts_of output_paths)) (unless_ok (not (some_under (texts_of output_paths) (texts_of output_paths))) SameName b.2);
    }

pub lists_given : (environment : List SettingValue) (output_paths : List (List (List ℕ))) → AreLists environment output_paths → lists_checked environment output_paths ≡ Ok tt
unfolding lists_checked
lists_given environment output_paths h =
    let a = ordered_behind-from (variable_names environment) h.names in
    let b = sorted.ascending_behind-from bytes_cmp (texts_of output_paths) h.outputs in
    rw (a, b, h.under) refl

pub command_made : (c : CommandValue) → AllByRecursion IsString c.arguments → AllByRecursion IsSetting c.environment → IfSome c.working_directory IsPath → AllByRecursion IsPath c.output_paths → texts_checked c.arguments c.environment ≡ Ok tt → lists_checked c.environment c.output_paths ≡ Ok tt → IsCommand c
command_made c utf8 is directory paths texts lists =
    let t = texts_found c.arguments c.environment utf8 is texts in
    let l = lists_found c.environment c.output_paths lists in
    record {
      program = t.program;
      arguments = t.arguments;
      environment = t.environment;
      names_ascend = l.names;
      working_directory = directory;
      output_paths = paths;
      outputs_ascend = l.outputs;
      outputs_apart = apart_within c.output_paths l.outputs (none_under c.output_paths c.output_paths paths l.under);
    }

pub command_checked : (c : CommandValue) → IsCommand c → (texts_checked c.arguments c.environment ≡ Ok tt) × (lists_checked c.environment c.output_paths ≡ Ok tt)
command_checked c k = (
  texts_given c.arguments c.environment (record { program = k.program; arguments = k.arguments; environment = k.environment }),
  lists_given c.environment c.output_paths (record { names = k.names_ascend; outputs = k.outputs_ascend; under = under_none c.output_paths c.output_paths k.output_paths k.output_paths (within_apart c.output_paths k.outputs_apart) }),
)

-- ---- what `new` answers

command_same : (c x : CommandValue) → command_of c ≡ Ok x → c ≡ x
unfolding command_of
command_same c x e =
    let a = bind_ok (texts_checked c.arguments c.environment) _ x e in
    let b = bind_ok (lists_checked c.environment c.output_paths) (λ _. Ok c) x a.2 in
    ok_is {E = MessageError} c x b.2

command_given : (c : CommandValue) → IsCommand c → command_of c ≡ Ok c
unfolding command_of
command_given c k = let h = command_checked c k in let t : texts_checked c.arguments c.environment ≡ Ok tt = h.0 in let l : lists_checked c.environment c.output_paths ≡ Ok tt = h.1 in rw (t, l) refl

pub command_answer : (c : CommandValue) (r : Result CommandValue MessageError) → Gives (λ x. x) r (command_of c) → IfOk r IsCommand → IsOk r ↔ IsCommand c
command_answer c (Ok x) given valid = (λ _. subst IsCommand (sym (command_same c x given)) valid, λ _. refl)
command_answer c (Err e) given valid = (λ h. absurd (cc h), λ k. let o = command_given c k in absurd (cc (sym o ∙ given)))

-- ---- the working directory

pub directory_found : (text : List ℕ) (d : Option (List (List ℕ))) → working_directory_of text ≡ Ok d → IfSome d IsPath × (text ≡ directory_text d)
unfolding working_directory_of
directory_found [] d e = subst (λ (x : Option (List (List ℕ))). IfSome x IsPath × ([] ≡ directory_text x)) (ok_is {E = MessageError} None d e) (tt, refl)
directory_found (b ∷ text) d e =
    let p = bind_ok (path_of (b ∷ text)) (λ path. Ok (Some path)) d e in
    let f = path_found (b ∷ text) p.0 p.1 in
    subst (λ (x : Option (List (List ℕ))). IfSome x IsPath × ((b ∷ text) ≡ directory_text x)) (ok_is {E = MessageError} (Some p.0) d p.2) (f.0, f.1)

no_empty : IsPath ([] ∷ []) → ⊥
no_empty is = let none : 0 < 0 = is.each.0.segment.some in omega arith

read_text : (path : List (List ℕ)) (text : List ℕ) → IsPath path → path_text path ≡ text → working_directory_of text ≡ Ok (Some path)
unfolding working_directory_of
read_text path [] is e =
    let one : [] ∷ [] ≡ path = sym (ap parts_of e) ∙ parts_of_path path is in
    absurd (no_empty (subst IsPath (sym one) is))
read_text path (b ∷ text) is e = let r : path_of (b ∷ text) ≡ Ok path = ap path_of (sym e) ∙ path_given path is in rw r refl

absent : working_directory_of [] ≡ Ok None
unfolding working_directory_of
absent = refl

pub directory_given : (d : Option (List (List ℕ))) → IfSome d IsPath → working_directory_of (directory_text d) ≡ Ok d
directory_given None is = absent
directory_given (Some path) is = read_text path (path_text path) is refl
