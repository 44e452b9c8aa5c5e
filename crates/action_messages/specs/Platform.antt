-- The message Platform of remote_execution.proto: what an action asks of the machine that runs it,
-- as `properties` sorted by name and then by value. Without properties it is written as no field at
-- all in the message that holds it.
use Rattle.std.specs.Prelude.{ℕ, List, [], ◌∷◌, map, Option, Some, None, Result, Ok, Err}
use Rattle.std.specs.List.{AllByRecursion}
use Rattle.std.specs.Ordering.{ordering_then}
use Rattle.std.specs.declared.cmp.Ordering.{Ordering}
use Rattle.wire.specs.Record.{Record}
use Rattle.wire.specs.Spelling.{spelling}
use Rattle.wire.specs.Steps.{◌>>=◌}
use Rattle.canonical.specs.declared.error.CanonError.TheVariants.{DefaultWritten}
use Rattle.canonical.specs.declared.shape.Kind.TheVariants as kinds
use Rattle.canonical.specs.declared.shape.Entry.{Entry}
use Rattle.canonical.specs.Fields.{element_fields, elements_at}
use Rattle.canonical.specs.Told.{each}
use Rattle.messages.specs.declared.error.MessageError.{MessageError}
use Rattle.messages.specs.declared.error.MessageError.TheVariants.{Wire}
use Rattle.messages.specs.Order.{bytes_cmp}
use Rattle.messages.specs.Shapes.{repeated}
use Rattle.messages.specs.Told.{shape_checked}
use Rattle.action_messages.specs.Ascending.{IsAscendingBy, ascending_behind}
use Rattle.action_messages.specs.Setting.{SettingValue, IsSetting, setting_bytes, decoded_setting}

pub record PlatformValue : Type 0 where
  pub properties : List SettingValue

-- The order of properties: by name, then by value.
abbrev pub setting_cmp : SettingValue → SettingValue → Ordering
setting_cmp s t = ordering_then (bytes_cmp s.name t.name) (bytes_cmp s.value t.value)

pub record IsPlatform (p : PlatformValue) : Type 0 where
  pub properties : AllByRecursion IsSetting p.properties
  pub ascend : IsAscendingBy setting_cmp p.properties

abbrev pub platform_shape : List Entry
platform_shape = repeated 1 kinds.Message ∷ []

-- the one encoding of a platform
unfoldable pub platform_bytes : PlatformValue → List ℕ
platform_bytes p = spelling (element_fields 1 (map setting_bytes p.properties))

-- the field of a message that holds a platform: absent where the platform has no properties
abbrev pub platform_entry_of : List SettingValue → Option (List ℕ)
platform_entry_of [] = None
platform_entry_of (s ∷ settings) = Some (platform_bytes (record { properties = s ∷ settings }))

abbrev pub platform_entry : PlatformValue → Option (List ℕ)
platform_entry p = platform_entry_of p.properties

-- ---- what bytes say, or the first refusal: the shape, the properties in the order of the bytes,
-- their order

-- the platform of these properties
unfoldable pub platform_of : PlatformValue → Result PlatformValue MessageError
platform_of p = ascending_behind setting_cmp None p.properties >>= λ _. Ok p

abbrev pub platform_in : List Record → Result PlatformValue MessageError
platform_in rs =
    each decoded_setting (elements_at 1 rs) >>= λ properties.
    platform_of (record { properties = properties })

unfoldable pub decoded_platform : List ℕ → Result PlatformValue MessageError
decoded_platform bytes = shape_checked platform_shape bytes >>= platform_in

-- the platform of a field, which isn't written where it is empty
unfoldable pub platform_at : Option (List ℕ) → Result PlatformValue MessageError
platform_at None = Ok (record { properties = [] })
platform_at (Some []) = Err (Wire DefaultWritten)
platform_at (Some (b ∷ bytes)) = decoded_platform (b ∷ bytes)
