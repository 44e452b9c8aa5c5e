-- The methods that the server knows, as code tells them apart.
use Rattle.std.specs.Prelude.{Bool, true, false}
use Rattle.http_core.specs.declared.method.Method.{Method}
use Rattle.http_core.specs.declared.method.Method.TheVariants.{Get, Put}

abbrev pub is_put_method : Method → Bool
is_put_method Get = false
is_put_method Put = true
