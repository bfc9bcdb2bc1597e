-- The usage text.
use Rattle.std.specs.Prelude.{◌++◌, codes}
use Rattle.clap.specs.Walk.{Text}

-- The text to print if the words aren't a valid call. It has a line for each of the seven actions.
unfoldable pub usage_text : Text
usage_text =
    codes "usage: relint check [OPTIONS] PATH..\n"
    ++ codes "       relint class [OPTIONS] PATTERN\n"
    ++ codes "       relint cost [OPTIONS] PATTERN TEXT\n"
    ++ codes "       relint sample [OPTIONS] SEED COUNT\n"
    ++ codes "       relint prove [OPTIONS] PATTERN\n"
    ++ codes "       relint verify [OPTIONS] PATTERN FILE\n"
    ++ codes "       relint compare [OPTIONS] PATTERN PATTERN\n"
