-- The message Platform is read from its one encoding, and so is the field that holds one.
use Rattle.std.proofs.Common.{◌≡◌, ◌≢◌, ℕ, List, [], ◌∷◌, ◌++◌, map, Option, Some, None, Result, Ok, Err, option_map, refl, sym, ap, subst, ◌∙◌}
use Rattle.std.specs.Prelude.{IfSome}
use Rattle.std.specs.Cmp.{IsTotalOrder}
use Rattle.std.proofs.lemmas.Cmp.{on_total, then_total}
use Rattle.std.specs.Cmp.Lexicographic.{nat_list_cmp_total}
use Rattle.std.proofs.lemmas.List.{append-nil}
use Rattle.wire.specs.Record.{Record, Bytes, record_with}
use Rattle.wire.specs.Spelling.{spelling, record_text}
use Rattle.wire.specs.Steps.{Gives}
use Rattle.wire.specs.Varint.{varint, groups}
use Rattle.std.proofs.lemmas.List.Concat.{flat_map-cons}
use Rattle.wire.specs.Bytes.{AreBytes}
use Rattle.wire.proofs.Steps.{bind_ok, ok_is}
use Rattle.canonical.specs.declared.shape.Kind.TheVariants as kinds
use Rattle.canonical.specs.Codec.{IsCodec}
use Rattle.canonical.specs.Columns.{column}
use Rattle.canonical.specs.Fields.{element_fields, elements_at}
use Rattle.canonical.specs.Told.{each}
use Rattle.canonical.proofs.Columns.{Part, joined}
use Rattle.canonical.proofs.Codec.{IsMessage, codec, codec_as, each_found, each_only}
use Rattle.canonical.proofs.FieldKinds.{elements_column, elements_again, elements_are}
use Rattle.canonical.proofs.Sound.{elements_sound}
use Rattle.messages.specs.declared.error.MessageError.{MessageError}
use Rattle.messages.specs.Told.{told}
use Rattle.messages.specs.Gives.{GivesUnlessMemory}
use Rattle.messages.specs.Shapes.{repeated}
use Rattle.messages.proofs.DirectoryCodec.{no_texts}
use Rattle.action_messages.specs.Ascending.{IsAscendingBy, ascending_behind}
use Rattle.action_messages.specs.Setting.{SettingValue, IsSetting, setting_bytes, decoded_setting}
use Rattle.action_messages.specs.Platform.{PlatformValue, IsPlatform, setting_cmp, platform_shape, platform_bytes, platform_entry, platform_of, platform_in, decoded_platform, platform_at}
use Rattle.action_messages.proofs.Sorted.{IsTransitive, ascending, ascending_behind-from}
use Rattle.action_messages.proofs.SettingCodec.{setting_codec}

pub setting_total : IsTotalOrder setting_cmp
setting_total = then_total (on_total (λ (s : SettingValue). s.name) nat_list_cmp_total) (on_total (λ (s : SettingValue). s.value) nat_list_cmp_total)

pub setting_trans : IsTransitive setting_cmp
setting_trans = setting_total.trans

abbrev pub platform_parts : PlatformValue → List Part
platform_parts p = (repeated 1 kinds.Message, element_fields 1 (map setting_bytes p.properties)) ∷ []

platform_found : (p x : PlatformValue) → platform_of p ≡ Ok x → IsAscendingBy setting_cmp p.properties × (p ≡ x)
unfolding platform_of
platform_found p x h =
    let a = bind_ok (ascending_behind setting_cmp None p.properties) (λ _. Ok p) x h in
    (ascending setting_cmp setting_trans p.properties a.1, ok_is {E = MessageError} p x a.2)

pub platform_given : (p : PlatformValue) → IsAscendingBy setting_cmp p.properties → platform_of p ≡ Ok p
unfolding platform_of
platform_given p h = let o = ascending_behind-from setting_cmp p.properties h in rw o refl

platform_message : IsMessage platform_shape platform_in platform_parts IsPlatform
platform_message = record {
  ascends = refl;
  found = λ rs x s shape e.
      let a = bind_ok (each decoded_setting (elements_at 1 rs)) _ x e in
      let made : PlatformValue = record { properties = a.0 } in
      let k = platform_found made x a.2 in
      let e1 : column 1 rs ≡ element_fields 1 (elements_at 1 rs) = elements_column (repeated 1 kinds.Message) rs shape.kept.0 refl in
      let f1 = each_found decoded_setting setting_bytes IsSetting setting_codec (elements_at 1 rs) a.0 (elements_sound 1 rs (elements_at 1 rs) s e1) a.1 in
      let c1 : column 1 rs ≡ element_fields 1 (map setting_bytes a.0) = e1 ∙ ap (element_fields 1) f1.1 in
      let parts : rs ≡ joined (platform_parts made) = shape.parts ∙ rw c1 refl in
      subst (λ (y : PlatformValue). IsPlatform y × (rs ≡ joined (platform_parts y))) k.1 (record { properties = f1.0; ascend = k.0 }, parts);
  shape = λ p k. (refl, (elements_are (repeated 1 kinds.Message) (map setting_bytes p.properties) refl refl (no_texts (map setting_bytes p.properties)), tt));
  only = λ p rs k s apart.
      let t1 = elements_again 1 rs (map setting_bytes p.properties) apart.0 in
      let r1 = each_only decoded_setting setting_bytes IsSetting setting_codec (map setting_bytes p.properties) p.properties (elements_sound 1 rs (map setting_bytes p.properties) s apart.0) k.properties refl in
      rw (t1, r1) (platform_given p k.ascend);
}

pub platform_codec : IsCodec decoded_platform platform_bytes IsPlatform
unfolding decoded_platform platform_bytes
platform_codec = codec_as decoded_platform platform_bytes (codec told platform_shape platform_in platform_parts IsPlatform platform_message) (λ b. refl)
    (λ p. ap spelling (append-nil (element_fields 1 (map setting_bytes p.properties))))

-- ---- the field that holds a platform

no_bytes : platform_bytes (record { properties = [] }) ≡ []
unfolding platform_bytes
no_bytes = refl

some_bytes : (s : SettingValue) (ss : List SettingValue) → platform_bytes (record { properties = s ∷ ss }) ≢ []
unfolding platform_bytes varint groups
some_bytes s ss = λ e.
    let r : Record = record_with 1 (Bytes (setting_bytes s)) in
    let first : record_text r ++ spelling (element_fields 1 (map setting_bytes ss)) ≡ [] = sym (flat_map-cons record_text r (element_fields 1 (map setting_bytes ss))) ∙ e in
    cc

entry_made : (b : ℕ) (bytes : List ℕ) (ss : List SettingValue) → (b ∷ bytes) ≡ platform_bytes (record { properties = ss }) → Some (b ∷ bytes) ≡ platform_entry (record { properties = ss })
entry_made b bytes [] e = let none : (b ∷ bytes) ≡ [] = e ∙ no_bytes in absurd cc
entry_made b bytes (s ∷ ss) e = ap Some e

pub entry_found : (o : Option (List ℕ)) (p : PlatformValue) → IfSome o AreBytes → platform_at o ≡ Ok p → IsPlatform p × (o ≡ platform_entry p)
unfolding platform_at
entry_found None p s e = subst (λ (x : PlatformValue). IsPlatform x × (None ≡ platform_entry x)) (ok_is {E = MessageError} (record { properties = [] }) p e) (record { properties = tt; ascend = tt }, refl)
entry_found (Some []) p s e = absurd cc
entry_found (Some (b ∷ bytes)) p s e =
    let f = platform_codec.found (b ∷ bytes) p s.1 e in
    (f.0, entry_made b bytes p.properties f.1)

at_bytes : (bytes : List ℕ) (p : PlatformValue) → bytes ≢ [] → decoded_platform bytes ≡ Ok p → platform_at (Some bytes) ≡ Ok p
unfolding platform_at
at_bytes [] p some e = absurd (some refl)
at_bytes (b ∷ bytes) p some e = e

absent : platform_at None ≡ Ok (record { properties = [] })
unfolding platform_at
absent = refl

entry_read : (ss : List SettingValue) → IsPlatform (record { properties = ss }) → IfSome (platform_entry (record { properties = ss })) AreBytes → platform_at (platform_entry (record { properties = ss })) ≡ Ok (record { properties = ss })
entry_read [] k s = absent
entry_read (x ∷ ss) k s =
    let p : PlatformValue = record { properties = x ∷ ss } in
    at_bytes (platform_bytes p) p (some_bytes x ss) (platform_codec.only (platform_bytes p) p s k refl)

pub entry_again : (p : PlatformValue) → IsPlatform p → IfSome (platform_entry p) AreBytes → platform_at (platform_entry p) ≡ Ok p
entry_again p k s = entry_read p.properties k s

-- no properties are a platform, that of an absent field
pub no_platform : {Y : Type 0} (r : Result PlatformValue MessageError) (ss : List SettingValue) (o : Option Y) (f : Y → List ℕ) → ss ≡ [] → o ≡ None → Gives (λ p. p) r (platform_of (record { properties = ss })) → GivesUnlessMemory (λ p. p) r (platform_at (option_map f o))
unfolding platform_of platform_at
no_platform (Ok p) ss o f none gone given = let given' : platform_of (record { properties = [] }) ≡ Ok p = rw none at given in rw gone given'
no_platform (Err e) ss o f none gone given = let given' : platform_of (record { properties = [] }) ≡ Err e = rw none at given in absurd cc
