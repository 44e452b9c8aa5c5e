-- The words of a fault.
use Rattle.std.specs.Prelude.{ℕ, List, ◌++◌, codes, decimal}
use Rattle.remote.specs.declared.fault.Fault.{Fault}
use Rattle.remote.specs.declared.fault.Fault.TheVariants.{Io, BadReply, Status, Broken}

abbrev pub fault_text : Fault → List ℕ
fault_text Io = codes "the connection failed, ended, or was silent too long"
fault_text BadReply =
    codes "the server's reply isn't of HTTP/1.1 with one Content-Length of at most 16777216"
fault_text (Status status) = codes "the server answered with status " ++ decimal status
fault_text Broken = codes "the connection is closed"
