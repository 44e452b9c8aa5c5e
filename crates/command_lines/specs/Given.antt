-- What is given to a command, and the words that are typed for it.
use Rattle.std.specs.Prelude.{◌≡◌, ◌==◌, ◌&&◌, Bool, true, false, not, List, [], ◌∷◌, ◌++◌, map}
use Rattle.std.specs.Prelude.{Option, Some, None, codes, bytes_eq, find, is_some, option_map}
use Rattle.std.specs.List.{AllByRecursion, Contains, IsDistinct, filter, flat_map}
use Rattle.std.specs.Option.{option_or}
use Rattle.clap.specs.declared.builder.action.ArgAction.{ArgAction}
use Rattle.clap.specs.declared.builder.action.ArgAction.TheVariants.{SetTrue}
use Rattle.clap.specs.Words.{App, Text, first_of}
use Rattle.clap.specs.declared.error.kind.ErrorKind.TheVariants.{MissingRequiredArgument}
use Rattle.command_lines.specs.CommandLine.{CallsCommand, IsAtFault, options_of}

-- how a text is typed: `--store FOLDER`, or `--store=FOLDER`, or a word that stands alone, or a
-- flag as `--verbose`
pub data Manner : Type 0 where
  in_two_words : Manner
  in_one_word : Manner
  by_itself : Manner
  as_flag : Manner

-- a text, and the name of the option or of the word alone that it is given for
pub record Given : Type 0 where
  pub name : Text
  pub text : Text
  pub manner : Manner

-- the words of one that is given
abbrev pub typed_as : Manner → Text → Text → List Text
typed_as in_two_words name text = (codes "--" ++ name) ∷ text ∷ []
typed_as in_one_word name text = (codes "--" ++ name ++ codes "=" ++ text) ∷ []
typed_as by_itself name text = text ∷ []
typed_as as_flag name text = (codes "--" ++ name) ∷ []

-- the words of all that is given, in its order
abbrev pub typed : List Given → List Text
typed given = flat_map (λ g. typed_as g.manner g.name g.text) given

-- the text that is given for a name, where one is
abbrev pub given_text : Text → List Given → Option Text
given_text name given = option_map (λ g. g.text) (find (λ g. bytes_eq g.name name) given)

-- ---- what a command can take

-- an option is a flag by what is done where it is given
abbrev pub is_flag : Option ArgAction → Bool
is_flag (Some SetTrue) = true
is_flag _ = false

-- the names of a command's options that have a text; `names_of_flags` has those of its flags
abbrev pub names_of_options : App → List Text
names_of_options line =
    map (λ r. r.id) (filter (λ r. is_some r.long && not (is_flag r.action)) line.top.rules)

abbrev pub names_of_flags : App → List Text
names_of_flags line = map (λ r. r.id) (filter (λ r. is_flag r.action) line.top.rules)

-- the names of a command's words that stand alone
abbrev pub names_of_words : App → List Text
names_of_words line = map (λ r. r.id) (filter (λ r. not (is_some r.long)) line.top.rules)

-- the names of a command's options and words that it can't do without
abbrev pub needed_names : App → List Text
needed_names line = map (λ r. r.id) (filter (λ r. r.required) line.top.rules)

-- a word that can be a text: it begins with no hyphen (45), or is a hyphen alone
abbrev pub can_be_text : Text → Bool
can_be_text [] = true
can_be_text (c ∷ []) = true
can_be_text (c ∷ d ∷ rest) = not (c == 45)

-- The command has such an option, word or flag. A text that is a word of its own can be one, and
-- that of a flag is `true`.
abbrev pub HasPlaceFor : App → Manner → Text → Text → Type 0
HasPlaceFor line in_two_words name text =
    Contains (names_of_options line) name × (can_be_text text ≡ true)
HasPlaceFor line in_one_word name text = Contains (names_of_options line) name
HasPlaceFor line by_itself name text =
    Contains (names_of_words line) name × (can_be_text text ≡ true)
HasPlaceFor line as_flag name text = Contains (names_of_flags line) name × (text ≡ codes "true")

-- the command has a place for each, and none is given twice
pub record HasPlaces (line : App) (given : List Given) : Type 0 where
  pub known : AllByRecursion (λ g. HasPlaceFor line g.manner g.name g.text) given
  pub once : IsDistinct bytes_eq (map (λ g. g.name) given)

-- the command has a place for each, none is given twice, and all that the command needs is given
pub record CanTake (line : App) (given : List Given) : Type 0 where
  pub places : HasPlaces line given
  pub whole : AllByRecursion (Contains (map (λ g. g.name) given)) (needed_names line)

-- ---- what is understood

-- `false` for a flag of the command, and none for another name
abbrev pub usual_text : App → Text → Option Text
usual_text line name =
    option_map (λ _. codes "false") (find (λ n. bytes_eq n name) (names_of_flags line))

-- the words call the command, with the texts that are given, and else the usual ones
pub record AsksFor (words : List Text) (line : App) (given : List Given) : Type 0 where
  pub called : CallsCommand words line.top.name
  pub texts_are : (name : Text) → first_of name (options_of words)
      ≡ option_or (given_text name given) (usual_text line name)

-- whatever the command can take, in whatever order and manner: its words ask for just that
abbrev pub IsUnderstood : App → Type 0
IsUnderstood line =
    (given : List Given) → CanTake line given → AsksFor (line.top.name ∷ typed given) line given

-- where a text that the command needs isn't given, the words are at fault with just that
abbrev pub MissesNeeded : App → Type 0
MissesNeeded line = (given : List Given) (name : Text) → HasPlaces line given
    → Contains (needed_names line) name → given_text name given ≡ None
    → IsAtFault (line.top.name ∷ typed given) MissingRequiredArgument

-- ---- an example

-- `verify`, with each text in the word after its option
abbrev pub verify_in_two : Text → Text → Text → Text → Text → List Text
verify_in_two store sources plan noted claim =
    codes "verify" ∷ codes "--store" ∷ store ∷ codes "--sources" ∷ sources ∷ codes "--plan" ∷ plan ∷
    codes "--record" ∷ noted ∷ codes "--claim" ∷ claim ∷ []

-- each text can be a word of its own
abbrev pub CanBeTexts : List Text → Type 0
CanBeTexts texts = AllByRecursion (λ text. can_be_text text ≡ true) texts
