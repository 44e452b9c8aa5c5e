-- One encoding is that of one frame, Action and Command.
use Rattle.std.proofs.Common.{◌≡◌, ℕ, List, [], ◌∷◌, map, Option, Some, Ok, refl, ap, sym, ◌∙◌, arith}
use Rattle.std.specs.Prelude.{pos, IfSome, Result}
use Rattle.std.specs.Int.{w64, cast_unsigned}
use Rattle.std.specs.List.{AllByRecursion}
use Rattle.hex.specs.declared.error.FromHexError.{FromHexError}
use Rattle.hex.specs.Hex.{encode_lower, decode_of, IsBytes}
use Rattle.hex.proofs.HexLemmas.{decode_of-encode_lower}
use Rattle.wire.specs.Record.{Record}
use Rattle.wire.specs.Spelling.{spelling}
use Rattle.canonical.specs.Fields.{bytes_field, int_field, bool_field, message_field, element_fields}
use Rattle.blob_digest.specs.DigestValue.{DigestValue, IsDigest}
use Rattle.messages.specs.declared.error.MessageError.{MessageError}
use Rattle.messages.specs.DigestMessage.{digest_bytes}
use Rattle.messages.specs.Path.{IsPath, parts_of, path_text}
use Rattle.messages.proofs.Paths.{parts_of_path}
use Rattle.action_messages.specs.Setting.{SettingValue, setting_bytes}
use Rattle.action_messages.specs.Platform.{platform_bytes, platform_entry_of}
use Rattle.action_messages.specs.Frame.{FrameValue, IsFrame, frame_bytes}
use Rattle.action_messages.specs.Action.{ActionValue, IsAction, action_bytes}
use Rattle.action_messages.specs.Overlaps.{texts_of}
use Rattle.action_messages.specs.Command.{CommandValue, IsCommand, command_bytes, directory_text, working_directory_of}
use Rattle.action_messages.proofs.Commands.{directory_given}
use Rattle.actions.proofs.FieldLists.{AreFields, bool_is, bool_once, bytes_are, bytes_once, each_once, elements_are, elements_once, five, four, given_once, message_is, message_once, number_is, number_once, spelled_fields, together}

-- ---- what messages are made of

hex_once : (xs ys : List ℕ) → IsBytes xs → IsBytes ys → encode_lower xs ≡ encode_lower ys → xs ≡ ys
hex_once xs ys h k e =
    let both : ◌≡◌ {A = Result (List ℕ) FromHexError} (Ok xs) (Ok ys) = sym (decode_of-encode_lower xs h) ∙ ap decode_of e ∙ decode_of-encode_lower ys k in
    cc

digest_once : (d e : DigestValue) → IsDigest d → IsDigest e → digest_bytes d ≡ digest_bytes e → d ≡ e
digest_once d e h k eq =
    let parts = spelled_fields (1 ∷ []) 2 (bytes_field 1 (encode_lower d.hash) ∷ []) (bytes_field 1 (encode_lower e.hash) ∷ []) (int_field 2 (pos d.size)) (int_field 2 (pos e.size))
    (omega arith, bytes_are 1 (encode_lower d.hash), (omega arith, number_is 2 _)) (omega arith, bytes_are 1 (encode_lower e.hash), (omega arith, number_is 2 _)) eq in
    let lists = parts.0 in
    let first : bytes_field 1 (encode_lower d.hash) ≡ bytes_field 1 (encode_lower e.hash) = cc in
    let hashes = hex_once d.hash e.hash h.hash.bytes k.hash.bytes (bytes_once 1 (encode_lower d.hash) (encode_lower e.hash) first) in
    let casts : cast_unsigned w64 (pos d.size) ≡ cast_unsigned w64 (pos e.size) = number_once 2 _ _ parts.1 in
    let sizes : d.size ≡ e.size = omega (arith, casts, h.size, k.size) in
    λ i. record { hash = hashes i; size = sizes i }

setting_once : (s t : SettingValue) → setting_bytes s ≡ setting_bytes t → s ≡ t
unfolding setting_bytes
setting_once s t e =
    let parts = spelled_fields (1 ∷ []) 2 (bytes_field 1 s.name ∷ []) (bytes_field 1 t.name ∷ []) (bytes_field 2 s.value) (bytes_field 2 t.value)
    (omega arith, bytes_are 1 s.name, (omega arith, bytes_are 2 s.value)) (omega arith, bytes_are 1 t.name, (omega arith, bytes_are 2 t.value)) e in
    let lists = parts.0 in
    let first : bytes_field 1 s.name ≡ bytes_field 1 t.name = cc in
    let names = bytes_once 1 s.name t.name first in
    let values = bytes_once 2 s.value t.value parts.1 in
    λ i. record { name = names i; value = values i }

any : {X : Type 0} (xs : List X) → AllByRecursion (λ x. Unit {0}) xs
any [] = tt
any (x ∷ xs) = (tt, any xs)

settings_once : (ss ts : List SettingValue) → map setting_bytes ss ≡ map setting_bytes ts → ss ≡ ts
settings_once ss ts e = each_once setting_bytes (λ s. Unit {0}) (λ s t h k. setting_once s t) ss ts (any ss) (any ts) e

properties_once : (ss ts : List SettingValue) → platform_bytes (record { properties = ss }) ≡ platform_bytes (record { properties = ts }) → ss ≡ ts
unfolding platform_bytes
properties_once ss ts e =
    let parts = spelled_fields [] 1 [] [] (element_fields 1 (map setting_bytes ss)) (element_fields 1 (map setting_bytes ts))
    (omega arith, elements_are 1 (map setting_bytes ss)) (omega arith, elements_are 1 (map setting_bytes ts)) e in
    settings_once ss ts (elements_once 1 (map setting_bytes ss) (map setting_bytes ts) parts.1)

entry_once : (ss ts : List SettingValue) → platform_entry_of ss ≡ platform_entry_of ts → ss ≡ ts
entry_once [] [] e = refl
entry_once [] (t ∷ ts) e = absurd cc
entry_once (s ∷ ss) [] e = absurd cc
entry_once (s ∷ ss) (t ∷ ts) e =
    let same : platform_bytes (record { properties = s ∷ ss }) ≡ platform_bytes (record { properties = t ∷ ts }) = cc in
    properties_once (s ∷ ss) (t ∷ ts) same

path_once : (p q : List (List ℕ)) → IsPath p → IsPath q → path_text p ≡ path_text q → p ≡ q
path_once p q h k e = sym (parts_of_path p h) ∙ ap parts_of e ∙ parts_of_path q k

directory_once : (o p : Option (List (List ℕ))) → IfSome o IsPath → IfSome p IsPath → directory_text o ≡ directory_text p → o ≡ p
directory_once o p h k e =
    let same : ◌≡◌ {A = Result (Option (List (List ℕ))) MessageError} (Ok o) (Ok p) = sym (directory_given o h) ∙ ap working_directory_of e ∙ directory_given p k in
    cc

-- ---- the messages

abbrev frame_fields : FrameValue → List (List Record)
frame_fields f =
    message_field 1 (Some (digest_bytes f.command)) ∷
    bool_field 7 f.do_not_cache ∷
    bytes_field 9 f.salt ∷
    []

abbrev frame_last : FrameValue → List Record
frame_last f = message_field 10 (platform_entry_of f.platform.properties)

are_frame_fields : (f : FrameValue) → AreFields 0 (1 ∷ 7 ∷ 9 ∷ []) 10 (frame_fields f) (frame_last f)
are_frame_fields f = (
  omega arith,
  message_is 1 (Some (digest_bytes f.command)),
  (
    omega arith,
    bool_is 7 f.do_not_cache,
    (omega arith, bytes_are 9 f.salt, (omega arith, message_is 10 (platform_entry_of f.platform.properties))),
  ),
)

frame_spelled : (f : FrameValue) → spelling (together (frame_fields f) (frame_last f)) ≡ frame_bytes f
unfolding frame_bytes
frame_spelled f = ap spelling (four (message_field 1 (Some (digest_bytes f.command))) (bool_field 7 f.do_not_cache) (bytes_field 9 f.salt) (frame_last f))

pub frame_bytes_injective : (f g : FrameValue) → IsFrame f → IsFrame g → frame_bytes f ≡ frame_bytes g → f ≡ g
frame_bytes_injective f g h k e =
    let fields = spelled_fields (1 ∷ 7 ∷ 9 ∷ []) 10 (frame_fields f) (frame_fields g) (frame_last f) (frame_last g) (are_frame_fields f) (are_frame_fields g)
    (frame_spelled f ∙ e ∙ sym (frame_spelled g)) in
    let lists = fields.0 in
    let f1 : message_field 1 (Some (digest_bytes f.command)) ≡ message_field 1 (Some (digest_bytes g.command)) = cc in
    let f7 : bool_field 7 f.do_not_cache ≡ bool_field 7 g.do_not_cache = cc in
    let f9 : bytes_field 9 f.salt ≡ bytes_field 9 g.salt = cc in
    let command = digest_once f.command g.command h.command k.command (given_once 1 (digest_bytes f.command) (digest_bytes g.command) f1) in
    let cached = bool_once 7 f.do_not_cache g.do_not_cache f7 in
    let salt = bytes_once 9 f.salt g.salt f9 in
    let properties = entry_once f.platform.properties g.platform.properties (message_once 10 (platform_entry_of f.platform.properties) (platform_entry_of g.platform.properties) fields.1) in
    λ i. record { command = command i; do_not_cache = cached i; salt = salt i; platform = record { properties = properties i } }

abbrev action_fields : ActionValue → List (List Record)
action_fields a =
    message_field 1 (Some (digest_bytes a.frame.command)) ∷
    message_field 2 (Some (digest_bytes a.input)) ∷
    bool_field 7 a.frame.do_not_cache ∷
    bytes_field 9 a.frame.salt ∷
    []

abbrev action_last : ActionValue → List Record
action_last a = message_field 10 (platform_entry_of a.frame.platform.properties)

are_action_fields : (a : ActionValue) → AreFields 0 (1 ∷ 2 ∷ 7 ∷ 9 ∷ []) 10 (action_fields a) (action_last a)
are_action_fields a = (
  omega arith,
  message_is 1 (Some (digest_bytes a.frame.command)),
  (
    omega arith,
    message_is 2 (Some (digest_bytes a.input)),
    (
      omega arith,
      bool_is 7 a.frame.do_not_cache,
      (omega arith, bytes_are 9 a.frame.salt, (omega arith, message_is 10 (platform_entry_of a.frame.platform.properties))),
    ),
  ),
)

action_spelled : (a : ActionValue) → spelling (together (action_fields a) (action_last a)) ≡ action_bytes a
unfolding action_bytes
action_spelled a = ap spelling (five (message_field 1 (Some (digest_bytes a.frame.command))) (message_field 2 (Some (digest_bytes a.input))) (bool_field 7 a.frame.do_not_cache) (bytes_field 9 a.frame.salt) (action_last a))

pub action_bytes_injective : (a b : ActionValue) → IsAction a → IsAction b → action_bytes a ≡ action_bytes b → a ≡ b
action_bytes_injective a b h k e =
    let fields = spelled_fields (1 ∷ 2 ∷ 7 ∷ 9 ∷ []) 10 (action_fields a) (action_fields b) (action_last a) (action_last b) (are_action_fields a) (are_action_fields b)
    (action_spelled a ∙ e ∙ sym (action_spelled b)) in
    let lists = fields.0 in
    let f1 : message_field 1 (Some (digest_bytes a.frame.command)) ≡ message_field 1 (Some (digest_bytes b.frame.command)) = cc in
    let f2 : message_field 2 (Some (digest_bytes a.input)) ≡ message_field 2 (Some (digest_bytes b.input)) = cc in
    let f7 : bool_field 7 a.frame.do_not_cache ≡ bool_field 7 b.frame.do_not_cache = cc in
    let f9 : bytes_field 9 a.frame.salt ≡ bytes_field 9 b.frame.salt = cc in
    let command = digest_once a.frame.command b.frame.command h.frame.command k.frame.command (given_once 1 (digest_bytes a.frame.command) (digest_bytes b.frame.command) f1) in
    let input = digest_once a.input b.input h.input k.input (given_once 2 (digest_bytes a.input) (digest_bytes b.input) f2) in
    let cached = bool_once 7 a.frame.do_not_cache b.frame.do_not_cache f7 in
    let salt = bytes_once 9 a.frame.salt b.frame.salt f9 in
    let properties = entry_once a.frame.platform.properties b.frame.platform.properties (message_once 10 (platform_entry_of a.frame.platform.properties) (platform_entry_of b.frame.platform.properties) fields.1) in
    λ i. record { frame = record { command = command i; do_not_cache = cached i; salt = salt i; platform = record { properties = properties i } }; input = input i }

abbrev command_fields : CommandValue → List (List Record)
command_fields c =
    element_fields 1 c.arguments ∷
    element_fields 2 (map setting_bytes c.environment) ∷
    bytes_field 6 (directory_text c.working_directory) ∷
    []

abbrev command_last : CommandValue → List Record
command_last c = element_fields 7 (texts_of c.output_paths)

are_command_fields : (c : CommandValue) → AreFields 0 (1 ∷ 2 ∷ 6 ∷ []) 7 (command_fields c) (command_last c)
are_command_fields c = (
  omega arith,
  elements_are 1 c.arguments,
  (
    omega arith,
    elements_are 2 (map setting_bytes c.environment),
    (omega arith, bytes_are 6 (directory_text c.working_directory), (omega arith, elements_are 7 (texts_of c.output_paths))),
  ),
)

command_spelled : (c : CommandValue) → spelling (together (command_fields c) (command_last c)) ≡ command_bytes c
unfolding command_bytes
command_spelled c = ap spelling (four (element_fields 1 c.arguments) (element_fields 2 (map setting_bytes c.environment)) (bytes_field 6 (directory_text c.working_directory)) (command_last c))

pub command_bytes_injective : (c d : CommandValue) → IsCommand c → IsCommand d → command_bytes c ≡ command_bytes d → c ≡ d
command_bytes_injective c d h k e =
    let fields = spelled_fields (1 ∷ 2 ∷ 6 ∷ []) 7 (command_fields c) (command_fields d) (command_last c) (command_last d) (are_command_fields c) (are_command_fields d)
    (command_spelled c ∙ e ∙ sym (command_spelled d)) in
    let lists = fields.0 in
    let f1 : element_fields 1 c.arguments ≡ element_fields 1 d.arguments = cc in
    let f2 : element_fields 2 (map setting_bytes c.environment) ≡ element_fields 2 (map setting_bytes d.environment) = cc in
    let f6 : bytes_field 6 (directory_text c.working_directory) ≡ bytes_field 6 (directory_text d.working_directory) = cc in
    let arguments = elements_once 1 c.arguments d.arguments f1 in
    let environment = settings_once c.environment d.environment (elements_once 2 (map setting_bytes c.environment) (map setting_bytes d.environment) f2) in
    let directory = directory_once c.working_directory d.working_directory h.working_directory k.working_directory (bytes_once 6 (directory_text c.working_directory) (directory_text d.working_directory) f6) in
    let paths = each_once path_text IsPath path_once c.output_paths d.output_paths h.output_paths k.output_paths (elements_once 7 (texts_of c.output_paths) (texts_of d.output_paths) fields.1) in
    λ i. record { arguments = arguments i; environment = environment i; working_directory = directory i; output_paths = paths i }
