-- Targets of symbolic links (remote_execution.proto, `target` of SymlinkNode). The limit is this
-- product's profile.
use Rattle.std.specs.Prelude.{◌≡◌, ◌≢◌, ℕ, ◌<◌, ◌≤◌, Bool, true, ◌==◌, ◌&&◌, not, nat_lt, List}
use Rattle.std.specs.Prelude.{length, Result, Ok, Err, if◌then◌else◌}
use Rattle.std.specs.List.{AllByRecursion, list_any}
use Rattle.std.specs.Str.{is_utf8}
use Rattle.messages.specs.declared.error.MessageError.{MessageError}
use Rattle.messages.specs.declared.error.MessageError.TheVariants.{BadPath}

-- 1 to 4096 bytes without NUL
pub record IsLink (text : List ℕ) : Type 0 where
  pub some : 0 < length text
  pub short : length text ≤ 4096
  pub no_nul : AllByRecursion (λ b. b ≢ 0) text

-- a target: 1 to 4096 bytes of UTF-8 without NUL
pub record IsTarget (text : List ℕ) : Type 0 where
  pub utf8 : is_utf8 text ≡ true
  pub link : IsLink text

-- ---- the test

abbrev pub is_link : List ℕ → Bool
is_link text =
    not (length text == 0) && nat_lt (length text) 4097 && not (list_any (λ b. b == 0) text)

-- the target, or the refusal
abbrev pub target_of : List ℕ → Result (List ℕ) MessageError
target_of text = if is_utf8 text && is_link text then Ok text else Err BadPath
