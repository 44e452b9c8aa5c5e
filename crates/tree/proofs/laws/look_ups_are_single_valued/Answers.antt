use Rattle.messages.specs.DirectoryRules.{IsDirectory}
use Rattle.messages.specs.Directory.{directory_bytes}
use Rattle.tree.proofs.LookupOnce.{told_once, fault_once, told_or_fault, looks_once}
use Rattle.tree.proofs.laws.look_ups_are_single_valued.Goals as goal

pub returns-clause-told : goal.returns-clause-told
returns-clause-told c = told_once

pub returns-clause-faults : goal.returns-clause-faults
returns-clause-faults c = fault_once IsDirectory directory_bytes

pub returns-clause-excluded : goal.returns-clause-excluded
returns-clause-excluded c = told_or_fault IsDirectory directory_bytes

pub returns-clause-looked : goal.returns-clause-looked
returns-clause-looked c = looks_once
