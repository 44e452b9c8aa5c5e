-- The messages EnvironmentVariable of Command and Property of Platform of remote_execution.proto: a
-- setting, that is a `name` and a `value`. What names and values may be is a rule of the message
-- that holds them.
use Rattle.std.specs.Prelude.{◌≡◌, ℕ, true, List, [], ◌∷◌, ◌++◌, Result, Ok}
use Rattle.std.specs.Str.{is_utf8}
use Rattle.wire.specs.Record.{Record}
use Rattle.wire.specs.Spelling.{spelling}
use Rattle.wire.specs.Steps.{◌>>=◌}
use Rattle.canonical.specs.declared.shape.Kind.TheVariants as kinds
use Rattle.canonical.specs.declared.shape.Entry.{Entry}
use Rattle.canonical.specs.Fields.{bytes_field}
use Rattle.messages.specs.declared.error.MessageError.{MessageError}
use Rattle.messages.specs.Shapes.{single}
use Rattle.messages.specs.Told.{shape_checked}
use Rattle.action_messages.specs.Fields.{text_at}

pub record SettingValue : Type 0 where
  pub name : List ℕ
  pub value : List ℕ

-- two texts of UTF-8
pub record IsSetting (s : SettingValue) : Type 0 where
  pub name : is_utf8 s.name ≡ true
  pub value : is_utf8 s.value ≡ true

abbrev pub setting_shape : List Entry
setting_shape = single 1 kinds.String ∷ single 2 kinds.String ∷ []

-- the one encoding of a setting
unfoldable pub setting_bytes : SettingValue → List ℕ
setting_bytes s = spelling (bytes_field 1 s.name ++ bytes_field 2 s.value)

-- ---- what bytes say, or the first refusal: that of the shape

abbrev pub setting_in : List Record → Result SettingValue MessageError
setting_in rs =
    text_at 1 rs >>= λ name.
    text_at 2 rs >>= λ value.
    Ok (record { name = name; value = value })

unfoldable pub decoded_setting : List ℕ → Result SettingValue MessageError
decoded_setting bytes = shape_checked setting_shape bytes >>= setting_in
