use Rattle.std.proofs.Common.{true, false}
use Rattle.wire.proofs.AnyFaults as any
use Rattle.wire.proofs.Faults.{varint_faulty}
use Rattle.wire.proofs.FaultsTold.{varint_told, any_varint_told, record_told, record_faulty}
use Rattle.wire.proofs.laws.faults_are_those_of_the_bytes.Goals as goal

pub returns-clause-varints : goal.returns-clause-varints
returns-clause-varints c = λ bytes e. ((λ h. varint_faulty bytes e h), (λ h. varint_told bytes e h))

pub returns-clause-any_varints : goal.returns-clause-any_varints
returns-clause-any_varints c = λ bytes e. ((λ h. any.varint_faulty bytes e h), (λ h. any_varint_told bytes e h))

pub returns-clause-records : goal.returns-clause-records
returns-clause-records c = λ bytes e fits. ((λ h. record_faulty true bytes e fits h), (λ h. record_told true bytes e fits h))

pub returns-clause-any_records : goal.returns-clause-any_records
returns-clause-any_records c = λ bytes e fits. ((λ h. record_faulty false bytes e fits h), (λ h. record_told false bytes e fits h))
