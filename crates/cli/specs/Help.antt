-- What `--help` and `--version` print, and the tip behind a mistake in the words.
use Rattle.std.specs.Prelude.{◌≡◌, ◌≢◌, ℕ, List, [], ◌∷◌, bytes_eq, codes, if◌then◌else◌}
use Rattle.clap.specs.Words.{Text}
use Rattle.clap.specs.declared.error.kind.ErrorKind.{ErrorKind}
use Rattle.clap.specs.declared.error.kind.ErrorKind.TheVariants.{InvalidSubcommand}
use Rattle.cli.specs.declared.help.TheConstants.{BUILD, COMPARE, DIGEST, GET, PROGRAM, PUT, SERVE}
use Rattle.cli.specs.declared.help.TheConstants.{VERIFY}

-- the help of a command, and that of the program where no command has the name
abbrev pub help_on : Text → List ℕ
help_on name =
    if bytes_eq name (codes "serve") then SERVE.now
    else (if bytes_eq name (codes "verify") then VERIFY.now
    else (if bytes_eq name (codes "put") then PUT.now
    else (if bytes_eq name (codes "get") then GET.now
    else (if bytes_eq name (codes "digest") then DIGEST.now
    else (if bytes_eq name (codes "build") then BUILD.now
    else (if bytes_eq name (codes "compare") then COMPARE.now else PROGRAM.now))))))

-- the help that words ask for: that of the command that they name first, and else the program's
abbrev pub help_asked : List Text → List ℕ
help_asked [] = PROGRAM.now
help_asked (name ∷ rest) = help_on name

-- what clap doesn't say, behind its words for a mistake of this kind: where the commands are told
pub record IsTip (kind : ErrorKind) (tip : List ℕ) : Type 0 where
  pub command : kind ≡ InvalidSubcommand → tip ≡ codes "; tip: '--help' prints the commands"
  pub none : kind ≢ InvalidSubcommand → tip ≡ []

abbrev pub version_line : List ℕ
version_line = codes "buildcache 0.2.0\n"
