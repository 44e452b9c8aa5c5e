-- The message Command of remote_execution.proto: the `arguments` that are run, the first of which
-- names the program; the `environment_variables`, sorted by name; the `working_directory`, a path
-- in the input root or none for the root itself; and the `output_paths`, sorted by their texts.
use Rattle.std.specs.Prelude.{◌≡◌, ◌≢◌, ℕ, ◌<◌, Bool, true, ◌==◌, ◌&&◌, not, List, [], ◌∷◌, ◌++◌}
use Rattle.std.specs.Prelude.{length, map, Option, Some, None, Result, Ok, Err, IfSome}
use Rattle.std.specs.List.{AllByRecursion, list_any, list_all}
use Rattle.std.specs.Str.{is_utf8}
use Rattle.wire.specs.Record.{Record}
use Rattle.wire.specs.Spelling.{spelling}
use Rattle.wire.specs.Steps.{◌>>=◌}
use Rattle.canonical.specs.declared.shape.Kind.TheVariants as kinds
use Rattle.canonical.specs.declared.shape.Entry.{Entry}
use Rattle.canonical.specs.Fields.{bytes_field, element_fields, bytes_at, elements_at}
use Rattle.canonical.specs.Told.{each}
use Rattle.messages.specs.declared.error.MessageError.{MessageError}
use Rattle.messages.specs.declared.error.MessageError.TheVariants.{MissingField, BadText, SameName}
use Rattle.messages.specs.Order.{bytes_cmp, IsAscending, ordered_behind}
use Rattle.messages.specs.Path.{IsPath, AreApart, path_of, path_text}
use Rattle.messages.specs.Shapes.{single, repeated}
use Rattle.messages.specs.Told.{shape_checked}
use Rattle.action_messages.specs.Fields.{string_of, refused_unless}
use Rattle.action_messages.specs.Ascending.{ascending_behind}
use Rattle.action_messages.specs.Overlaps.{some_under, texts_of}
use Rattle.action_messages.specs.Setting.{SettingValue, setting_bytes, decoded_setting}

pub record CommandValue : Type 0 where
  pub arguments : List (List ℕ)
  pub environment : List SettingValue
  pub working_directory : Option (List (List ℕ))
  pub output_paths : List (List (List ℕ))

-- what can be handed to a process: UTF-8 without NUL
pub record IsText (text : List ℕ) : Type 0 where
  pub utf8 : is_utf8 text ≡ true
  pub no_nul : AllByRecursion (λ b. b ≢ 0) text

-- the first argument names the program, so it is there and isn't empty
abbrev pub NamesProgram : List (List ℕ) → Type 0
NamesProgram [] = ⊥
NamesProgram (program ∷ arguments) = 0 < length program

-- a name of at least one byte, without `=`
pub record IsVariable (v : SettingValue) : Type 0 where
  pub name : IsText v.name
  pub some : 0 < length v.name
  pub no_equals : AllByRecursion (λ b. b ≢ 61) v.name
  pub value : IsText v.value

abbrev pub variable_names : List SettingValue → List (List ℕ)
variable_names environment = map (λ v. v.name) environment

pub record IsCommand (c : CommandValue) : Type 0 where
  pub program : NamesProgram c.arguments
  pub arguments : AllByRecursion IsText c.arguments
  pub environment : AllByRecursion IsVariable c.environment
  pub names_ascend : IsAscending (variable_names c.environment)
  pub working_directory : IfSome c.working_directory IsPath
  pub output_paths : AllByRecursion IsPath c.output_paths
  pub outputs_ascend : IsAscending (texts_of c.output_paths)
  pub outputs_apart : AreApart c.output_paths

abbrev pub command_shape : List Entry
command_shape =
    repeated 1 kinds.String ∷
    repeated 2 kinds.Message ∷
    single 6 kinds.String ∷
    repeated 7 kinds.String ∷
    []

-- no path is written as no text
abbrev pub directory_text : Option (List (List ℕ)) → List ℕ
directory_text None = []
directory_text (Some path) = path_text path

-- the one encoding of a command
unfoldable pub command_bytes : CommandValue → List ℕ
command_bytes c = spelling (
    element_fields 1 c.arguments ++
    element_fields 2 (map setting_bytes c.environment) ++
    bytes_field 6 (directory_text c.working_directory) ++
    element_fields 7 (texts_of c.output_paths))

-- ---- what bytes say, or the first refusal: the shape, the variables in the order of the bytes,
-- the missing argument, texts and paths by field and place, the order of each list, overlaps

abbrev pub has_byte : ℕ → List ℕ → Bool
has_byte c text = list_any (λ b. b == c) text

abbrev pub is_argument : List ℕ → Bool
is_argument text = not (has_byte 0 text)

abbrev pub are_arguments : List (List ℕ) → Bool
are_arguments [] = true
are_arguments (program ∷ arguments) =
    not (length program == 0) && list_all is_argument (program ∷ arguments)

abbrev pub is_variable_name : List ℕ → Bool
is_variable_name name = not (length name == 0) && not (has_byte 61 name) && not (has_byte 0 name)

abbrev pub is_variable : SettingValue → Bool
is_variable v = is_variable_name v.name && not (has_byte 0 v.value)

abbrev pub some_argument : List (List ℕ) → Result (Unit {0}) MessageError
some_argument [] = Err (MissingField 1)
some_argument (program ∷ arguments) = Ok tt

-- the missing argument, and then the texts of fields 1 and 2
unfoldable pub texts_checked : List (List ℕ) → List SettingValue → Result (Unit {0}) MessageError
texts_checked arguments environment =
    some_argument arguments >>= λ _.
    refused_unless (are_arguments arguments) (BadText 1) >>= λ _.
    refused_unless (list_all is_variable environment) (BadText 2)

-- the order of fields 2 and 7, and then overlaps
unfoldable pub lists_checked : List SettingValue → List (List (List ℕ))
    → Result (Unit {0}) MessageError
lists_checked environment output_paths =
    ordered_behind None (variable_names environment) >>= λ _.
    ascending_behind bytes_cmp None (texts_of output_paths) >>= λ _.
    refused_unless (not (some_under (texts_of output_paths) (texts_of output_paths))) SameName

-- the command of these fields, or the first refusal
unfoldable pub command_of : CommandValue → Result CommandValue MessageError
command_of c =
    texts_checked c.arguments c.environment >>= λ _.
    lists_checked c.environment c.output_paths >>= λ _.
    Ok c

-- an empty text is no path
unfoldable pub working_directory_of : List ℕ → Result (Option (List (List ℕ))) MessageError
working_directory_of [] = Ok None
working_directory_of (b ∷ text) = path_of (b ∷ text) >>= λ path. Ok (Some path)

abbrev pub command_in : List Record → Result CommandValue MessageError
command_in rs =
    each string_of (elements_at 1 rs) >>= λ arguments.
    each decoded_setting (elements_at 2 rs) >>= λ environment.
    texts_checked arguments environment >>= λ _.
    working_directory_of (bytes_at 6 rs) >>= λ working_directory.
    each path_of (elements_at 7 rs) >>= λ output_paths.
    lists_checked environment output_paths >>= λ _.
    Ok (record {
      arguments = arguments;
      environment = environment;
      working_directory = working_directory;
      output_paths = output_paths;
    })

unfoldable pub decoded_command : List ℕ → Result CommandValue MessageError
decoded_command bytes = shape_checked command_shape bytes >>= command_in
