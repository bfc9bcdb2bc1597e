-- For private contracts: walking over the arguments of a call. An argument is the list of its tokens, and a `,` separates two
-- arguments. A table of sizes, which says for each suffix of the tokens where the bracket around it closes, makes it possible
-- to jump over brackets. `source` has the bytes of the source.
use Rattle.std.specs.Prelude.{◌≡◌, ℕ, zero, suc, ◌<◌, Bool, true, false, List, [], ◌∷◌, length, take, drop, slice_get, Some, ⊤, if◌then◌else◌}
use Rattle.rl_sites.specs.declared.significant.SignificantToken.{SignificantToken}
use Rattle.rl_sites.specs.declared.arguments.Form.{Form}
use Rattle.rl_sites.specs.declared.arguments.Form.TheVariants as form
use Rattle.rl_sites.specs.Arguments.{opens, closes, lambda_after, arguments_of}
use Rattle.rl_sites.specs.internal.Parts.{separates}
use Rattle.rl_sites.specs.Flags.{is_flags_argument, is_starred}

-- The number of tokens up to and including the bracket that closes an outer bracket, or of all tokens if nothing closes it.
-- The outer bracket was opened somewhere before the tokens, and `depth` more brackets inside it are still open where they
-- begin.
abbrev pub inside_size : List ℕ → ℕ → List SignificantToken → ℕ
inside_size source depth [] = 0
inside_size source (suc depth) (token ∷ rest) =
    suc
    (if opens source token then inside_size source (suc (suc depth)) rest
    else (if closes source token then inside_size source depth rest else inside_size source (suc depth) rest))
inside_size source zero (token ∷ rest) =
    suc
    (if opens source token then inside_size source 1 rest
    else (if closes source token then 0 else inside_size source 0 rest))

-- Holds if the table `sizes` has, for each suffix of the tokens, its `inside_size` at depth 0 at the index of its length. This
-- is the number of its tokens up to and including the first bracket that closes one opened before the suffix, or of all its
-- tokens if there is no such bracket.
abbrev pub IsTable : List ℕ → List SignificantToken → List ℕ → Type 0
IsTable source [] sizes = slice_get sizes 0 ≡ Some 0
IsTable source (token ∷ rest) sizes =
    (slice_get sizes (length (token ∷ rest)) ≡ Some (inside_size source 0 (token ∷ rest))) × IsTable source rest sizes

-- The number of tokens in the rest of an argument, up to but not including the `,` or the bracket that ends it. The argument
-- has opened `depth` brackets that aren't closed before these tokens. `in_lambda` says whether it has, outside its brackets, a
-- `lambda` whose `:` hasn't come yet.
abbrev pub argument_size : List ℕ → ℕ → Bool → List SignificantToken → ℕ
argument_size source depth in_lambda [] = 0
argument_size source (suc depth) in_lambda (token ∷ rest) =
    suc
    (if opens source token then argument_size source (suc (suc depth)) in_lambda rest
    else (if closes source token then argument_size source depth in_lambda rest
    else argument_size source (suc depth) in_lambda rest))
argument_size source zero in_lambda (token ∷ rest) =
    if opens source token then suc (argument_size source 1 (lambda_after source in_lambda token) rest)
    else (if closes source token then 0
    else (if separates source in_lambda token then 0 else suc (argument_size source 0 (lambda_after source in_lambda token) rest)))

-- The tokens of the first argument, without the `,` or the bracket that ends it, given the tokens after the opening bracket of
-- a call. It may be empty.
abbrev pub first_argument : List ℕ → List SignificantToken → List SignificantToken
first_argument source rest = take (argument_size source 0 false rest) rest

-- The arguments that follow one, given the tokens after it: none if these are empty or begin with the bracket that closes the
-- call, otherwise those after the `,` with which the tokens begin.
abbrev pub others_from : List ℕ → List SignificantToken → List (List SignificantToken)
others_from source [] = []
others_from source (token ∷ rest) = if closes source token then [] else arguments_of source rest

-- The arguments after the first, in order, each as the list of its tokens, given the tokens `rest` after the opening bracket
-- of a call. The list is empty if the call has only one argument, or none. After the `,` in `(a,)` comes an empty argument.
abbrev pub other_arguments : List ℕ → List SignificantToken → List (List SignificantToken)
other_arguments source rest = others_from source (drop (argument_size source 0 false rest) rest)

-- Whether the argument has the form: for `Starred` it begins with `*`, for `FlagsNamed` with `flags` and a single `=`.
abbrev pub has_form : List ℕ → Form → List SignificantToken → Bool
has_form source form.Starred argument = is_starred source argument
has_form source form.FlagsNamed argument = is_flags_argument source argument

-- Whether the list has at least one argument.
abbrev pub is_filled : List (List SignificantToken) → Bool
is_filled [] = false
is_filled (argument ∷ others) = true

-- Holds if the index of each token is less than 4,194,304, which is the maximum number of tokens in a
-- source.
abbrev pub IsNumbered : List SignificantToken → Type 0
IsNumbered [] = ⊤
IsNumbered (token ∷ rest) = (token.number < 4194304) × IsNumbered rest
