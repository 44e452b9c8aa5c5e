use Rattle.std.proofs.Common.{ap, ap₂, ◌∙◌, ◌≡◌, Bool, true, false, arith}
use Rattle.std.specs.Prelude.{codes, not, ◌&&◌}
use Rattle.std.proofs.lemmas.Result.{IfOk-weaker}
use Rattle.clap.specs.Simple.{app_of_fields, on_top}
use Rattle.clap.specs.Words.{App, app_of, new_app, with_subcommand}
use Rattle.command_lines.proofs.words.program.Goals as goal

-- where the third of some tests holds
third_holds : (a b x rest : Bool) → (a && (b && (not x && rest))) ≡ true → x ≡ false
third_holds a b x rest h = grind arith

pub returns : goal.returns
returns c =
    let named : app_of c.in_ok-bin_name.field-0 ≡ new_app (codes "buildcache") = ap app_of_fields c.in_ok-bin_name.ensures.0 ∙ c.new.ensures.app in
    let versioned : app_of c.version.result ≡ on_top (λ s. record s { has_version = true }) (new_app (codes "buildcache")) =
    ap app_of_fields c.version.ensures ∙ ap (on_top (λ s. record s { has_version = true })) named in
    let told : app_of c.no_binary_name.result ≡ on_top (λ s. record s { has_version = true; no_binary_name = true }) (new_app (codes "buildcache")) =
    ap app_of_fields c.no_binary_name.ensures ∙ ap (on_top (λ s. record s { no_binary_name = true })) versioned in
    let wanting : app_of c.subcommand_required.result ≡ on_top (λ s. record s { has_version = true; no_binary_name = true; subcommand_required = true }) (new_app (codes "buildcache")) =
    ap app_of_fields c.subcommand_required.ensures ∙ ap (on_top (λ s. record s { subcommand_required = true })) told in
    let above = ap app_of_fields c.disable_help_subcommand.ensures ∙ ap (on_top (λ s. record s { disable_help_subcommand = true })) wanting in
    let serving = c.in_ok-subcommand.ensures.shape (third_holds _ _ _ _ (ap (λ (a : App). a.top.is_plain) c.in_ok-serve_command.ensures)) ∙ ap₂ with_subcommand above (ap (λ (a : App). a.top) c.in_ok-serve_command.ensures) in
    let verifying = c.in_ok-subcommand-2.ensures.shape (third_holds _ _ _ _ (ap (λ (a : App). a.top.is_plain) c.in_ok-verify_command.ensures)) ∙ ap₂ with_subcommand serving (ap (λ (a : App). a.top) c.in_ok-verify_command.ensures) in
    let putting = c.in_ok-subcommand-3.ensures.shape (third_holds _ _ _ _ (ap (λ (a : App). a.top.is_plain) c.in_ok-put_command.ensures)) ∙ ap₂ with_subcommand verifying (ap (λ (a : App). a.top) c.in_ok-put_command.ensures) in
    let getting = c.in_ok-subcommand-4.ensures.shape (third_holds _ _ _ _ (ap (λ (a : App). a.top.is_plain) c.in_ok-get_command.ensures)) ∙ ap₂ with_subcommand putting (ap (λ (a : App). a.top) c.in_ok-get_command.ensures) in
    let digesting = c.in_ok-subcommand-5.ensures.shape (third_holds _ _ _ _ (ap (λ (a : App). a.top.is_plain) c.in_ok-digest_command.ensures)) ∙ ap₂ with_subcommand getting (ap (λ (a : App). a.top) c.in_ok-digest_command.ensures) in
    let building = c.in_ok-subcommand-6.ensures.shape (third_holds _ _ _ _ (ap (λ (a : App). a.top.is_plain) c.in_ok-build_command.ensures)) ∙ ap₂ with_subcommand digesting (ap (λ (a : App). a.top) c.in_ok-build_command.ensures) in
    IfOk-weaker c.subcommand-7.result _ _
    (λ r h. h.shape (third_holds _ _ _ _ (ap (λ (a : App). a.top.is_plain) c.in_ok-compare_command.ensures)) ∙ ap₂ with_subcommand building (ap (λ (a : App). a.top) c.in_ok-compare_command.ensures)) c.subcommand-7.ensures
