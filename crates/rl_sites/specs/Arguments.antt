-- The arguments of a call, read from the tokens after its opening bracket. An argument is the list of its tokens. A `,` ends
-- it, except inside brackets that the argument opens and between a `lambda` and its `:`. A closing bracket closes an opening
-- one of any kind. The tokens are significant ones, that is, without comments. `source` has the bytes of the source.
use Rattle.std.specs.Prelude.{ℕ, zero, suc, Bool, false, not, ◌&&◌, ◌||◌, List, [], ◌∷◌, codes, if◌then◌else◌}
use Rattle.std.specs.List.{onto_first}
use Rattle.rl_sites.specs.declared.significant.SignificantToken.{SignificantToken}
use Rattle.rl_sites.specs.Significant.{is_word, is_op}

-- Whether the token is an opening bracket of any kind.
unfoldable pub opens : List ℕ → SignificantToken → Bool
opens source token = is_op source (codes "(") token || is_op source (codes "[") token || is_op source (codes "{") token

-- Whether the token is a closing bracket of any kind.
unfoldable pub closes : List ℕ → SignificantToken → Bool
closes source token = is_op source (codes ")") token || is_op source (codes "]") token || is_op source (codes "}") token

-- Whether, after `token`, the argument has a `lambda` whose `:` hasn't come yet, if `in_lambda` says this of the argument
-- before `token`. Only tokens outside the brackets that the argument opens count.
unfoldable pub lambda_after : List ℕ → Bool → SignificantToken → Bool
lambda_after source in_lambda token =
    is_word source (codes "lambda") token || (in_lambda && not (is_op source (codes ":") token))

-- The rest of an argument, and the arguments after it, up to the bracket that closes the call or to the end of the tokens. The
-- argument has opened `depth` brackets that aren't closed before these tokens. `in_lambda` says whether it has, outside its
-- brackets, a `lambda` whose `:` hasn't come yet.
abbrev pub arguments_from : List ℕ → ℕ → Bool → List SignificantToken → List (List SignificantToken)
arguments_from source depth in_lambda [] = [] ∷ []
arguments_from source (suc depth) in_lambda (token ∷ rest) =
    onto_first token
    (if opens source token then arguments_from source (suc (suc depth)) in_lambda rest
    else (if closes source token then arguments_from source depth in_lambda rest
    else arguments_from source (suc depth) in_lambda rest))
arguments_from source zero in_lambda (token ∷ rest) =
    if opens source token then onto_first token (arguments_from source 1 (lambda_after source in_lambda token) rest)
    else (if closes source token then [] ∷ []
    else (if is_op source (codes ",") token && not in_lambda then [] ∷ arguments_from source 0 false rest
    else onto_first token (arguments_from source 0 (lambda_after source in_lambda token) rest)))

-- The arguments of a call, given the tokens after its opening bracket. There is always at least one: `()` gives one empty
-- argument, and `(a,)` gives `a` and an empty one.
abbrev pub arguments_of : List ℕ → List SignificantToken → List (List SignificantToken)
arguments_of source rest = arguments_from source 0 false rest
