-- What nodes are, by their variants.
use Rattle.std.proofs.Common.{◌≡◌, ◌≤◌, List, [], ◌∷◌, ◌++◌, length, map, Option, Some, sym, ap, ◌∙◌, arith, length-append}
use Rattle.std.specs.Option.{option_to_list}
use Rattle.rl_pattern.specs.declared.tree.SyntaxNode.TheViews as V
use Rattle.rl_pattern.specs.declared.tree.SyntaxNode.TheFolds.{the_lemmas}
use Rattle.rl_pattern.specs.declared.tree.SyntaxNode.{SyntaxNode}
use Rattle.std.specs.Prelude.{Box}
use Rattle.std.proofs.Common.{Global}
use Rattle.rl_pattern.specs.Tree as t
use Rattle.rl_pattern.specs.declared.tree.Branch.{Branch}
use Rattle.rl_pattern.specs.internal.Views.{node_of, branch_of}

pub node_of-repeat : (s q : t.Span) (n : t.Count) (g : t.Greed) (b : Box SyntaxNode Global) → node_of (V.Repeat s q n g b) ≡ t.repeat s q n g (node_of b.value)
node_of-repeat s q n g b = search the_lemmas

pub node_of-group : (s : t.Span) (k : t.Kind) (b : Box SyntaxNode Global) → node_of (V.Group s k b) ≡ t.group s k (node_of b.value)
node_of-group s k b = search the_lemmas

pub node_of-choice : (s : t.Span) (bs : List Branch) → node_of (V.Choice s bs) ≡ t.choice s (t.branches (map branch_of bs))
node_of-choice s bs = search the_lemmas

pub branch_of-fields : (b : Branch) → branch_of b ≡ record { place = b.place; body = node_of b.body }
branch_of-fields b = search the_lemmas

-- If a list has at most one item, and one is removed from its end, the list consists of that item.
pub one_left : {A B : Type 0} (f : A → B) (xs ys zs : List A) (o : Option A) (x : A) → ys ≡ xs → ys ≡ zs ++ option_to_list o → o ≡ Some x → length xs ≤ 1 → map f xs ≡ f x ∷ []
one_left f xs ys zs o x e h s l = go zs (sym e ∙ h ∙ ap (λ p. zs ++ option_to_list p) s)
  where
    go : (vs : List _) → xs ≡ vs ++ x ∷ [] → map f xs ≡ f x ∷ []
    go [] q = ap (map f) q
    go (v ∷ vs) q = absurd (omega (arith, l, ap length q, length-append vs (x ∷ [])))
