use Rattle.std.proofs.Common.{refl}
use Rattle.clap.proofs.OnLiterals.{clap_on_literals}
use Rattle.command_lines.proofs.Commands.{build_missed, build_understood, digest_missed, digest_understood, get_missed, get_understood, put_missed, put_understood, serve_missed, serve_understood, verify_in_two_understood, verify_understood}
use Rattle.command_lines.proofs.laws.words_are_understood.Goals as goal

pub returns : goal.returns
unfolding clap_on_literals
returns c = record {
  options = λ store sources plan noted claim. record {
    called = record { faultless = refl; command_is = refl };
    plain = refl;
    store_is = refl;
    sources_are = refl;
    plan_is = refl;
    noted_is = refl;
    claim_is = refl;
  };
  help = refl;
  short_help = refl;
  command_help = (refl, (refl, (refl, (refl, (refl, (refl, (refl, tt)))))));
  short_command_help = (refl, (refl, (refl, (refl, (refl, (refl, (refl, tt)))))));
  version = refl;
  short_version = refl;
  nothing = refl;
  option_unknown = (refl, (refl, (refl, (refl, (refl, (refl, (refl, tt)))))));
  verify = verify_understood;
  serve = serve_understood;
  put = put_understood;
  get = get_understood;
  digest = digest_understood;
  build = build_understood;
  serve_misses = serve_missed;
  put_misses = put_missed;
  get_misses = get_missed;
  digest_misses = digest_missed;
  build_misses = build_missed;
  two_words = verify_in_two_understood;
}
