use Rattle.std.proofs.Common.{◌≡◌, ◌∙◌, ◌∷◌, ap, string_bytes, subst, sym, Some}
use Rattle.std.proofs.lemmas.Slice.Eq.{bytes_eq-Decides}
use Rattle.clap.specs.Words.{first_of}
use Rattle.commands.specs.Evidence.{given}
use Rattle.commands.proofs.Asked.{apart_rows, other_text, own_row}
use Rattle.commands.proofs.evidence_options.EvidenceOptionsOptions.text.Goals as goal

pub returns-in_default : goal.returns-in_default
returns-in_default g c =
    let o = c.args.self.now in
    let name = c.args.option.now in
    let rows = g.M.Options.rows o.said.now in
    let same : name ≡ o.place.now = (bytes_eq-Decides name o.place.now).0 (sym c.eq.ensures ∙ c.if-eq.true) in
    ap Some c.as_str-in_default.ensures.value
    ∙ sym (apart_rows name o rows c.in_default.not-sources c.in_default.not-claim c.in_default.not-plan c.in_default.not-record
    ∙ subst (λ n. first_of n (given o.place.now (string_bytes o.entries) ∷ rows) ≡ Some (string_bytes o.entries)) (sym same) (own_row o.place.now (string_bytes o.entries) rows))

pub returns-in_default-2 : goal.returns-in_default-2
returns-in_default-2 g c =
    let o = c.args.self.now in
    let name = c.args.option.now in
    let rows = g.M.Options.rows o.said.now in
    c.text.ensures
    ∙ sym (apart_rows name o rows c.in_default.not-sources c.in_default.not-claim c.in_default.not-plan c.in_default.not-record
    ∙ other_text name o.place.now (string_bytes o.entries) rows (sym c.eq.ensures ∙ c.if-eq.false))
