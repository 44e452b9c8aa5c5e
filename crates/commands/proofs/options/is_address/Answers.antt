use Rattle.std.proofs.Common.{◌<◌, length, rules}
use Rattle.commands.proofs.Addresses.{AreAddress, address_of_parts, no_address, parts_of_address}
use Rattle.commands.specs.Options.{IsNumber, decimal_number}
use Rattle.commands.proofs.options.is_address.Goals as goal

pub returns-in_default : goal.returns-in_default
returns-in_default c = ((λ never. absurd (search rules)), λ is. absurd (no_address c.args.text.now (search rules) is))

pub returns-then-not-is_empty : goal.returns-then-not-is_empty
returns-then-not-is_empty c =
    let text = c.args.text.now in
    let host = c.in-Some.host.now in
    let port = c.in-Some.port.now in
    let cut = c.in-Some.ensures.cases in
    let some : 0 < length host = search rules in
    let number : IsNumber port = search rules in (
      (λ less.
          let few : decimal_number port < 65536 = search rules in
          address_of_parts text host port cut (some, number, few)),
      λ is.
          let are : AreAddress host port = parts_of_address text host port cut is in
          search rules,
    )

pub returns-else-not-is_empty : goal.returns-else-not-is_empty
returns-else-not-is_empty c =
    let text = c.args.text.now in
    let host = c.in-Some.host.now in
    let port = c.in-Some.port.now in
    let cut = c.in-Some.ensures.cases in (
      (λ never. absurd (search rules)),
      λ is.
          let are : AreAddress host port = parts_of_address text host port cut is in
          search rules,
    )

pub returns-in-None : goal.returns-in-None
returns-in-None c =
    let text = c.args.text.now in
    let host = c.in-Some.host.now in
    let port = c.in-Some.port.now in
    let cut = c.in-Some.ensures.cases in (
      (λ never. absurd (search rules)),
      λ is.
          let are : AreAddress host port = parts_of_address text host port cut is in
          search rules,
    )
