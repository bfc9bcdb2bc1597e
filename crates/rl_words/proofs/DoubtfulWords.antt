-- What doubtful words ask for, each decided by computation. No proof uses these lemmas: they review the definitions.
use Rattle.std.proofs.Common.{◌≡◌, [], ◌∷◌, Option, Some, None, codes, refl}
use Rattle.clap.proofs.OnLiterals.{clap_on_literals}
use Rattle.rl_words.specs.Call.{Asked, Call, Chosen, check, class, compare, cost, prove, sample, verify}
use Rattle.rl_words.specs.Command.{relint_app, rows_given}
use Rattle.rl_words.specs.Given.{given_by}
use Rattle.rl_words.specs.Usage.{usage_text}
use Rattle.rl_words.specs.declared.words.FormatWord.TheVariants as format
use Rattle.rl_words.specs.declared.words.ModeWord.TheVariants as mode
use Rattle.rl_words.specs.declared.words.PartialSettings.{PartialSettings}

abbrev nothing : PartialSettings
nothing = record { mode = None; format = None; max_degree = None; max_pairs = None; report = None }

abbrev no_options : Chosen
no_options = record { values = nothing; settings = None; baseline = None }

abbrev with_options : Asked → Chosen → Option Call
with_options action options = Some (record { action = action; options = options })

-- An action without options.
abbrev plain : Asked → Option Call
plain action = with_options action no_options

-- An action with settings.
abbrev with_values : Asked → PartialSettings → Option Call
with_values action values = with_options action (record no_options { values = values })

-- ---- each action

check_paths : given_by (codes "check" ∷ codes "src" ∷ codes "a.py" ∷ []) ≡ plain (check (codes "src" ∷ codes "a.py" ∷ []))
unfolding clap_on_literals relint_app rows_given given_by
check_paths = refl

class_pattern : given_by (codes "class" ∷ codes "a*" ∷ []) ≡ plain (class (codes "a*"))
unfolding clap_on_literals relint_app rows_given given_by
class_pattern = refl

cost_text : given_by (codes "cost" ∷ codes "a*" ∷ codes "aa" ∷ []) ≡ plain (cost (codes "a*") (codes "aa"))
unfolding clap_on_literals relint_app rows_given given_by
cost_text = refl

sample_numbers : given_by (codes "sample" ∷ codes "1" ∷ codes "3" ∷ []) ≡ plain (sample 1 3)
unfolding clap_on_literals relint_app rows_given given_by
sample_numbers = refl

prove_pattern : given_by (codes "prove" ∷ codes "a*" ∷ []) ≡ plain (prove (codes "a*"))
unfolding clap_on_literals relint_app rows_given given_by
prove_pattern = refl

verify_file : given_by (codes "verify" ∷ codes "a*" ∷ codes "c.json" ∷ []) ≡ plain (verify (codes "a*") (codes "c.json"))
unfolding clap_on_literals relint_app rows_given given_by
verify_file = refl

compare_patterns : given_by (codes "compare" ∷ codes "a" ∷ codes "b" ∷ []) ≡ plain (compare (codes "a") (codes "b"))
unfolding clap_on_literals relint_app rows_given given_by
compare_patterns = refl

-- ---- the number and the texts of arguments

no_words : given_by [] ≡ None
unfolding clap_on_literals relint_app rows_given given_by
no_words = refl

no_paths : given_by (codes "check" ∷ []) ≡ None
unfolding clap_on_literals relint_app rows_given given_by
no_paths = refl

empty_path : given_by (codes "check" ∷ codes "src" ∷ [] ∷ []) ≡ None
unfolding clap_on_literals relint_app rows_given given_by
empty_path = refl

class_alone : given_by (codes "class" ∷ []) ≡ None
unfolding clap_on_literals relint_app rows_given given_by
class_alone = refl

class_two : given_by (codes "class" ∷ codes "a" ∷ codes "b" ∷ []) ≡ None
unfolding clap_on_literals relint_app rows_given given_by
class_two = refl

cost_one : given_by (codes "cost" ∷ codes "a" ∷ []) ≡ None
unfolding clap_on_literals relint_app rows_given given_by
cost_one = refl

cost_three : given_by (codes "cost" ∷ codes "a" ∷ codes "b" ∷ codes "c" ∷ []) ≡ None
unfolding clap_on_literals relint_app rows_given given_by
cost_three = refl

-- An empty pattern and an empty text are arguments.
cost_empty : given_by (codes "cost" ∷ [] ∷ [] ∷ []) ≡ plain (cost [] [])
unfolding clap_on_literals relint_app rows_given given_by
cost_empty = refl

verify_empty_file : given_by (codes "verify" ∷ codes "a" ∷ [] ∷ []) ≡ None
unfolding clap_on_literals relint_app rows_given given_by
verify_empty_file = refl

verify_empty_pattern : given_by (codes "verify" ∷ [] ∷ codes "c" ∷ []) ≡ plain (verify [] (codes "c"))
unfolding clap_on_literals relint_app rows_given given_by
verify_empty_pattern = refl

unknown_action : given_by (codes "classes" ∷ codes "a" ∷ []) ≡ None
unfolding clap_on_literals relint_app rows_given given_by
unknown_action = refl

empty_action : given_by ([] ∷ codes "a" ∷ []) ≡ None
unfolding clap_on_literals relint_app rows_given given_by
empty_action = refl

action_in_capitals : given_by (codes "COST" ∷ codes "a" ∷ codes "a" ∷ []) ≡ None
unfolding clap_on_literals relint_app rows_given given_by
action_in_capitals = refl

-- ---- the numbers of `sample`

seed_least : given_by (codes "sample" ∷ codes "0" ∷ codes "1" ∷ []) ≡ plain (sample 0 1)
unfolding clap_on_literals relint_app rows_given given_by
seed_least = refl

seed_greatest : given_by (codes "sample" ∷ codes "2147483647" ∷ codes "20000" ∷ []) ≡ plain (sample 2147483647 20000)
unfolding clap_on_literals relint_app rows_given given_by
seed_greatest = refl

seed_above : given_by (codes "sample" ∷ codes "2147483648" ∷ codes "1" ∷ []) ≡ None
unfolding clap_on_literals relint_app rows_given given_by
seed_above = refl

seed_over_32_bits : given_by (codes "sample" ∷ codes "9999999999" ∷ codes "1" ∷ []) ≡ None
unfolding clap_on_literals relint_app rows_given given_by
seed_over_32_bits = refl

seed_ten_digits : given_by (codes "sample" ∷ codes "0000000007" ∷ codes "1" ∷ []) ≡ plain (sample 7 1)
unfolding clap_on_literals relint_app rows_given given_by
seed_ten_digits = refl

seed_eleven_digits : given_by (codes "sample" ∷ codes "00000000007" ∷ codes "1" ∷ []) ≡ None
unfolding clap_on_literals relint_app rows_given given_by
seed_eleven_digits = refl

count_zero : given_by (codes "sample" ∷ codes "1" ∷ codes "0" ∷ []) ≡ None
unfolding clap_on_literals relint_app rows_given given_by
count_zero = refl

count_above : given_by (codes "sample" ∷ codes "1" ∷ codes "20001" ∷ []) ≡ None
unfolding clap_on_literals relint_app rows_given given_by
count_above = refl

seed_plus : given_by (codes "sample" ∷ codes "+1" ∷ codes "1" ∷ []) ≡ None
unfolding clap_on_literals relint_app rows_given given_by
seed_plus = refl

seed_empty : given_by (codes "sample" ∷ [] ∷ codes "1" ∷ []) ≡ None
unfolding clap_on_literals relint_app rows_given given_by
seed_empty = refl

seed_minus : given_by (codes "sample" ∷ codes "-5" ∷ codes "1" ∷ []) ≡ None
unfolding clap_on_literals relint_app rows_given given_by
seed_minus = refl

-- ---- where and how options may be given

mode_after_equals : given_by (codes "cost" ∷ codes "a*" ∷ codes "aa" ∷ codes "--mode=match" ∷ []) ≡ with_values (cost (codes "a*") (codes "aa")) (record nothing { mode = Some mode.Match })
unfolding clap_on_literals relint_app rows_given given_by
mode_after_equals = refl

mode_after_blank : given_by (codes "cost" ∷ codes "a*" ∷ codes "aa" ∷ codes "--mode" ∷ codes "search" ∷ []) ≡ with_values (cost (codes "a*") (codes "aa")) (record nothing { mode = Some mode.Search })
unfolding clap_on_literals relint_app rows_given given_by
mode_after_blank = refl

mode_first : given_by (codes "--mode" ∷ codes "fullmatch" ∷ codes "cost" ∷ codes "a*" ∷ codes "aa" ∷ []) ≡ with_values (cost (codes "a*") (codes "aa")) (record nothing { mode = Some mode.Fullmatch })
unfolding clap_on_literals relint_app rows_given given_by
mode_first = refl

option_between : given_by (codes "check" ∷ codes "a" ∷ codes "--format" ∷ codes "brief" ∷ codes "b" ∷ []) ≡ with_values (check (codes "a" ∷ codes "b" ∷ [])) (record nothing { format = Some format.Brief })
unfolding clap_on_literals relint_app rows_given given_by
option_between = refl

two_options : given_by (codes "cost" ∷ codes "a*" ∷ codes "--report=1" ∷ codes "--format=json" ∷ codes "aa" ∷ []) ≡ with_values (cost (codes "a*") (codes "aa")) (record nothing { format = Some format.Json; report = Some 1 })
unfolding clap_on_literals relint_app rows_given given_by
two_options = refl

option_twice : given_by (codes "cost" ∷ codes "a*" ∷ codes "aa" ∷ codes "--mode=match" ∷ codes "--mode=search" ∷ []) ≡ None
unfolding clap_on_literals relint_app rows_given given_by
option_twice = refl

option_twice_equal : given_by (codes "cost" ∷ codes "a*" ∷ codes "aa" ∷ codes "--mode=match" ∷ codes "--mode=match" ∷ []) ≡ None
unfolding clap_on_literals relint_app rows_given given_by
option_twice_equal = refl

option_without_value : given_by (codes "cost" ∷ codes "a*" ∷ codes "aa" ∷ codes "--mode" ∷ []) ≡ None
unfolding clap_on_literals relint_app rows_given given_by
option_without_value = refl

option_before_dashes : given_by (codes "cost" ∷ codes "--mode" ∷ codes "--" ∷ codes "match" ∷ codes "a" ∷ []) ≡ None
unfolding clap_on_literals relint_app rows_given given_by
option_before_dashes = refl

empty_mode : given_by (codes "cost" ∷ codes "a*" ∷ codes "aa" ∷ codes "--mode=" ∷ []) ≡ None
unfolding clap_on_literals relint_app rows_given given_by
empty_mode = refl

unknown_mode : given_by (codes "cost" ∷ codes "a*" ∷ codes "aa" ∷ codes "--mode=Match" ∷ []) ≡ None
unfolding clap_on_literals relint_app rows_given given_by
unknown_mode = refl

unknown_format : given_by (codes "cost" ∷ codes "a*" ∷ codes "aa" ∷ codes "--format=xml" ∷ []) ≡ None
unfolding clap_on_literals relint_app rows_given given_by
unknown_format = refl

no_option_name : given_by (codes "cost" ∷ codes "a*" ∷ codes "aa" ∷ codes "--=match" ∷ []) ≡ None
unfolding clap_on_literals relint_app rows_given given_by
no_option_name = refl

short_name : given_by (codes "cost" ∷ codes "a*" ∷ codes "aa" ∷ codes "--mod=match" ∷ []) ≡ None
unfolding clap_on_literals relint_app rows_given given_by
short_name = refl

unknown_option : given_by (codes "cost" ∷ codes "a*" ∷ codes "aa" ∷ codes "--depth=1" ∷ []) ≡ None
unfolding clap_on_literals relint_app rows_given given_by
unknown_option = refl

short_option : given_by (codes "cost" ∷ codes "a*" ∷ codes "aa" ∷ codes "-m" ∷ codes "match" ∷ []) ≡ None
unfolding clap_on_literals relint_app rows_given given_by
short_option = refl

-- ---- help and dashes

help_option : given_by (codes "--help" ∷ []) ≡ None
unfolding clap_on_literals relint_app rows_given given_by
help_option = refl

help_beside_action : given_by (codes "cost" ∷ codes "a*" ∷ codes "aa" ∷ codes "--help" ∷ []) ≡ None
unfolding clap_on_literals relint_app rows_given given_by
help_beside_action = refl

help_letter : given_by (codes "-h" ∷ []) ≡ None
unfolding clap_on_literals relint_app rows_given given_by
help_letter = refl

help_word : given_by (codes "help" ∷ []) ≡ None
unfolding clap_on_literals relint_app rows_given given_by
help_word = refl

version_option : given_by (codes "--version" ∷ []) ≡ None
unfolding clap_on_literals relint_app rows_given given_by
version_option = refl

-- A single dash is an argument like any other word.
dash_is_argument : given_by (codes "class" ∷ codes "-" ∷ []) ≡ plain (class (codes "-"))
unfolding clap_on_literals relint_app rows_given given_by
dash_is_argument = refl

dash_before_letter : given_by (codes "class" ∷ codes "-a" ∷ []) ≡ None
unfolding clap_on_literals relint_app rows_given given_by
dash_before_letter = refl

after_dashes : given_by (codes "class" ∷ codes "--" ∷ codes "-a" ∷ []) ≡ plain (class (codes "-a"))
unfolding clap_on_literals relint_app rows_given given_by
after_dashes = refl

-- After `--`, every word is an argument, even a second `--`.
dashes_twice : given_by (codes "cost" ∷ codes "--" ∷ codes "-a" ∷ codes "--" ∷ []) ≡ plain (cost (codes "-a") (codes "--"))
unfolding clap_on_literals relint_app rows_given given_by
dashes_twice = refl

option_after_dashes : given_by (codes "cost" ∷ codes "a*" ∷ codes "--" ∷ codes "--mode=match" ∷ []) ≡ plain (cost (codes "a*") (codes "--mode=match"))
unfolding clap_on_literals relint_app rows_given given_by
option_after_dashes = refl

action_after_dashes : given_by (codes "--" ∷ codes "class" ∷ codes "a" ∷ []) ≡ plain (class (codes "a"))
unfolding clap_on_literals relint_app rows_given given_by
action_after_dashes = refl

-- ---- the numbers of options

degree_least : given_by (codes "cost" ∷ codes "a*" ∷ codes "aa" ∷ codes "--max-degree=0" ∷ []) ≡ with_values (cost (codes "a*") (codes "aa")) (record nothing { max_degree = Some 0 })
unfolding clap_on_literals relint_app rows_given given_by
degree_least = refl

degree_greatest : given_by (codes "cost" ∷ codes "a*" ∷ codes "aa" ∷ codes "--max-degree=999999" ∷ []) ≡ with_values (cost (codes "a*") (codes "aa")) (record nothing { max_degree = Some 999999 })
unfolding clap_on_literals relint_app rows_given given_by
degree_greatest = refl

degree_seven_digits : given_by (codes "cost" ∷ codes "a*" ∷ codes "aa" ∷ codes "--max-degree=0000001" ∷ []) ≡ None
unfolding clap_on_literals relint_app rows_given given_by
degree_seven_digits = refl

degree_plus : given_by (codes "cost" ∷ codes "a*" ∷ codes "aa" ∷ codes "--max-degree=+1" ∷ []) ≡ None
unfolding clap_on_literals relint_app rows_given given_by
degree_plus = refl

degree_minus : given_by (codes "cost" ∷ codes "a*" ∷ codes "aa" ∷ codes "--max-degree=-1" ∷ []) ≡ None
unfolding clap_on_literals relint_app rows_given given_by
degree_minus = refl

degree_empty : given_by (codes "cost" ∷ codes "a*" ∷ codes "aa" ∷ codes "--max-degree=" ∷ []) ≡ None
unfolding clap_on_literals relint_app rows_given given_by
degree_empty = refl

pairs_zero : given_by (codes "cost" ∷ codes "a*" ∷ codes "aa" ∷ codes "--max-pairs=0" ∷ []) ≡ None
unfolding clap_on_literals relint_app rows_given given_by
pairs_zero = refl

pairs_least : given_by (codes "cost" ∷ codes "a*" ∷ codes "aa" ∷ codes "--max-pairs=1" ∷ []) ≡ with_values (cost (codes "a*") (codes "aa")) (record nothing { max_pairs = Some 1 })
unfolding clap_on_literals relint_app rows_given given_by
pairs_least = refl

pairs_greatest : given_by (codes "cost" ∷ codes "a*" ∷ codes "aa" ∷ codes "--max-pairs=1000" ∷ []) ≡ with_values (cost (codes "a*") (codes "aa")) (record nothing { max_pairs = Some 1000 })
unfolding clap_on_literals relint_app rows_given given_by
pairs_greatest = refl

pairs_above : given_by (codes "cost" ∷ codes "a*" ∷ codes "aa" ∷ codes "--max-pairs=1001" ∷ []) ≡ None
unfolding clap_on_literals relint_app rows_given given_by
pairs_above = refl

report_zero : given_by (codes "cost" ∷ codes "a*" ∷ codes "aa" ∷ codes "--report=0" ∷ []) ≡ None
unfolding clap_on_literals relint_app rows_given given_by
report_zero = refl

report_two_digits : given_by (codes "cost" ∷ codes "a*" ∷ codes "aa" ∷ codes "--report" ∷ codes "02" ∷ []) ≡ with_values (cost (codes "a*") (codes "aa")) (record nothing { report = Some 2 })
unfolding clap_on_literals relint_app rows_given given_by
report_two_digits = refl

report_three : given_by (codes "cost" ∷ codes "a*" ∷ codes "aa" ∷ codes "--report" ∷ codes "3" ∷ []) ≡ None
unfolding clap_on_literals relint_app rows_given given_by
report_three = refl

-- ---- paths of options

settings_path : given_by (codes "cost" ∷ codes "a*" ∷ codes "aa" ∷ codes "--settings" ∷ codes "s.toml" ∷ []) ≡ with_options (cost (codes "a*") (codes "aa")) (record no_options { settings = Some (codes "s.toml") })
unfolding clap_on_literals relint_app rows_given given_by
settings_path = refl

settings_equals : given_by (codes "cost" ∷ codes "a*" ∷ codes "aa" ∷ codes "--settings=a=b" ∷ []) ≡ with_options (cost (codes "a*") (codes "aa")) (record no_options { settings = Some (codes "a=b") })
unfolding clap_on_literals relint_app rows_given given_by
settings_equals = refl

settings_dash_letter : given_by (codes "cost" ∷ codes "a*" ∷ codes "aa" ∷ codes "--settings=-x" ∷ []) ≡ with_options (cost (codes "a*") (codes "aa")) (record no_options { settings = Some (codes "-x") })
unfolding clap_on_literals relint_app rows_given given_by
settings_dash_letter = refl

settings_dash : given_by (codes "cost" ∷ codes "a*" ∷ codes "aa" ∷ codes "--settings" ∷ codes "-" ∷ []) ≡ with_options (cost (codes "a*") (codes "aa")) (record no_options { settings = Some (codes "-") })
unfolding clap_on_literals relint_app rows_given given_by
settings_dash = refl

settings_then_option : given_by (codes "cost" ∷ codes "a*" ∷ codes "aa" ∷ codes "--settings" ∷ codes "-x" ∷ []) ≡ None
unfolding clap_on_literals relint_app rows_given given_by
settings_then_option = refl

settings_empty : given_by (codes "cost" ∷ codes "a*" ∷ codes "aa" ∷ codes "--settings=" ∷ []) ≡ None
unfolding clap_on_literals relint_app rows_given given_by
settings_empty = refl

settings_empty_word : given_by (codes "cost" ∷ codes "a*" ∷ codes "aa" ∷ codes "--settings" ∷ [] ∷ []) ≡ None
unfolding clap_on_literals relint_app rows_given given_by
settings_empty_word = refl

baseline_path : given_by (codes "cost" ∷ codes "a*" ∷ codes "aa" ∷ codes "--baseline" ∷ codes "b.json" ∷ []) ≡ with_options (cost (codes "a*") (codes "aa")) (record no_options { baseline = Some (codes "b.json") })
unfolding clap_on_literals relint_app rows_given given_by
baseline_path = refl

baseline_empty : given_by (codes "cost" ∷ codes "a*" ∷ codes "aa" ∷ codes "--baseline=" ∷ []) ≡ None
unfolding clap_on_literals relint_app rows_given given_by
baseline_empty = refl

format_sarif : given_by (codes "cost" ∷ codes "a*" ∷ codes "aa" ∷ codes "--format=sarif" ∷ []) ≡ with_values (cost (codes "a*") (codes "aa")) (record nothing { format = Some format.Sarif })
unfolding clap_on_literals relint_app rows_given given_by
format_sarif = refl

-- ---- the usage text

usage : usage_text ≡ codes "usage: relint check [OPTIONS] PATH..\n       relint class [OPTIONS] PATTERN\n       relint cost [OPTIONS] PATTERN TEXT\n       relint sample [OPTIONS] SEED COUNT\n       relint prove [OPTIONS] PATTERN\n       relint verify [OPTIONS] PATTERN FILE\n       relint compare [OPTIONS] PATTERN PATTERN\n"
unfolding usage_text
usage = refl
