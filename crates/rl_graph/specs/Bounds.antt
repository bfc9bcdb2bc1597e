-- The constants of the upper bound on the cost of a pattern whose tree has `s` nodes. The program computes none of
-- them. The cost on a text is one more than the number of steps that a backtracking matcher takes up to the first
-- match, or in all if there is none. A live pair is a state of the pattern's automaton with the set of the states that
-- the matcher has tried in vain before it. An item list has what the matcher tries after a state or at the start, in
-- order. A twin is a state with two different paths to itself along one word. A split is two different states `r` and
-- `q` with paths from `r` to `r`, from `r` to `q` and from `q` to `q` along one word. The degree is one more than the
-- number of splits in a longest chain of splits of the graph of the live pairs, or 0 if this graph has no cycle.
use Rattle.std.specs.Prelude.{ℕ, suc, ◌+◌, ◌*◌, ◌^◌}

-- `N(s)`: an upper bound on the number of live pairs of a tree with `s` nodes.
unfoldable pub bound_n : ℕ → ℕ
bound_n s = 8 * (s + 1) * 2 ^ (8 * (s + 1))

-- `K(s)`: an upper bound on the length of every item list of a tree with `s` nodes.
unfoldable pub bound_k : ℕ → ℕ
bound_k s = 2 ^ (s * s)

-- `B(n)`, for a graph of `n` states. Let paths between two fixed states along one word move from `a` to `b` at this
-- many different times, with `a` and `b` in different strongly connected components. The colour of two of the paths is
-- the state of the later-moving one at the earlier time with the state of the other one at the later time. Then any two
-- of some five of the paths have the same colour, and it is a split.
unfoldable pub bound_b : ℕ → ℕ
bound_b n = (n * n + 1) ^ (3 * (n * n) + 1)

-- `H(n, k)`: an upper bound on the number of paths between two states along one word, in a graph of `n` states that has
-- neither a twin nor a split and at most `k` moves from a state on a letter.
unfoldable pub bound_h : ℕ → ℕ → ℕ
bound_h n k = (1 + n * n * k * bound_b n) ^ n

-- `C(s, d)`: if the graph of the live pairs of a pattern has no twin, and its degree is `d`, the cost on a text of `m`
-- codes is at most `C(s, d) * (m + 1)^d`.
unfoldable pub bound_c : ℕ → ℕ → ℕ
bound_c s d =
    1 + bound_n s * bound_n s * bound_k s * (bound_h (bound_n s) (bound_k s) * (1 + bound_n s * bound_k s)) ^ suc d
