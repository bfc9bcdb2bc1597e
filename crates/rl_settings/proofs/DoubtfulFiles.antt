-- What doubtful settings files say, each decided by computation. No proof uses these lemmas: they review the definitions.
use Rattle.std.proofs.Common.{◌≡◌, ◌++◌, [], ◌∷◌, ℕ, Option, Some, None, codes, refl}
use Rattle.std.specs.Str.{chars, is_utf8}
use Rattle.toml.proofs.OnLiterals.{toml_on_literals}
use Rattle.rl_settings.specs.Settings.{document_of, file_values}
use Rattle.rl_words.specs.declared.words.FormatWord.TheVariants as format
use Rattle.rl_words.specs.declared.words.ModeWord.TheVariants as mode
use Rattle.rl_words.specs.declared.words.PartialSettings.{PartialSettings}

abbrev nothing : PartialSettings
nothing = record { mode = None; max_degree = None; max_pairs = None; format = None; report = None }

abbrev degree : ℕ → Option PartialSettings
degree n = Some (record nothing { max_degree = Some n })

abbrev pairs : ℕ → Option PartialSettings
pairs n = Some (record nothing { max_pairs = Some n })

abbrev version : ℕ → Option PartialSettings
version n = Some (record nothing { report = Some n })

-- ---- accepted

empty_file : file_values [] ≡ Some nothing
unfolding toml_on_literals file_values document_of is_utf8 chars
empty_file = refl

all_keys : file_values (codes "report=2\nformat='json'\nmax-pairs=600\nmax-degree=2\ncompile-as=\"match\"")
    ≡ Some (record {
      mode = Some mode.Match;
      max_degree = Some 2;
      max_pairs = Some 600;
      format = Some format.Json;
      report = Some 2;
    })
unfolding toml_on_literals file_values document_of is_utf8 chars
all_keys = refl

quoted_key : file_values (codes "\"report\" = 1") ≡ version 1
unfolding toml_on_literals file_values document_of is_utf8 chars
quoted_key = refl

hexadecimal : file_values (codes "max-pairs = 0x10") ≡ pairs 16
unfolding toml_on_literals file_values document_of is_utf8 chars
hexadecimal = refl

minus_zero : file_values (codes "max-degree = -0") ≡ degree 0
unfolding toml_on_literals file_values document_of is_utf8 chars
minus_zero = refl

greatest_degree : file_values (codes "max-degree = 999_999") ≡ degree 999999
unfolding toml_on_literals file_values document_of is_utf8 chars
greatest_degree = refl

byte_order_mark : file_values (0xEF ∷ 0xBB ∷ 0xBF ∷ codes "report = 2") ≡ version 2
unfolding toml_on_literals file_values document_of is_utf8 chars
byte_order_mark = refl

-- ---- refused

no_pairs : file_values (codes "max-pairs = 0") ≡ None
unfolding toml_on_literals file_values document_of is_utf8 chars
no_pairs = refl

many_pairs : file_values (codes "max-pairs = 1001") ≡ None
unfolding toml_on_literals file_values document_of is_utf8 chars
many_pairs = refl

float : file_values (codes "report = 1.0") ≡ None
unfolding toml_on_literals file_values document_of is_utf8 chars
float = refl

number_as_text : file_values (codes "report = '1'") ≡ None
unfolding toml_on_literals file_values document_of is_utf8 chars
number_as_text = refl

array_of_tables : file_values (codes "[[report]]") ≡ None
unfolding toml_on_literals file_values document_of is_utf8 chars
array_of_tables = refl

dotted_key : file_values (codes "report.x = 1") ≡ None
unfolding toml_on_literals file_values document_of is_utf8 chars
dotted_key = refl

key_twice : file_values (codes "report = 1\nreport = 1") ≡ None
unfolding toml_on_literals file_values document_of is_utf8 chars
key_twice = refl

unknown_table : file_values (codes "report = 1\n[tool]") ≡ None
unfolding toml_on_literals file_values document_of is_utf8 chars
unknown_table = refl

comment_in_another_encoding : file_values (codes "# " ++ 0xE9 ∷ []) ≡ None
unfolding toml_on_literals file_values document_of is_utf8 chars
comment_in_another_encoding = refl
