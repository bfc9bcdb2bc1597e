-- The definitions for small texts, by computation.
use Rattle.std.proofs.Common.{◌≡◌, refl, Some, None}
use Rattle.std.specs.Prelude.{codes}
use Rattle.rl_pylex.specs.declared.token_list.TokenKind.TheVariants as kind
use Rattle.rl_pylex.specs.declared.rules.Reading.TheVariants.{Piece, Unterminated, Stray}
use Rattle.rl_pylex.specs.Bytes.{line_end}
use Rattle.rl_pylex.specs.Literals.{opens_after, prefix_size, quote_count, unit_size, size_after}
use Rattle.rl_pylex.specs.Rules.{blank, joined_line, new_line, comment, literal, name, number, operator, reading, depth_after}
use Rattle.rl_pylex.specs.Coding.{named_here, coding_of_line, is_bare, second_coding, coding_of, wrong_coding}

a_prefix : prefix_size (codes "Rb'x'") ≡ Some 2
unfolding prefix_size opens_after
a_prefix = refl

-- A quote after a backslash closes nothing, whether the literal is raw or not.
escaped_quote : size_after 1 (codes "r'\\'' + 1") ≡ Some 5
unfolding size_after quote_count unit_size
escaped_quote = refl

-- A quote, a line end and a shorter run of quotes in a triple-quoted literal.
triple : size_after 0 (codes "'''a'\n''b''' ''") ≡ Some 12
unfolding size_after quote_count unit_size
triple = refl

-- A CR LF after a backslash is skipped; any other line end is a fault.
joined : size_after 0 (codes "'a\\\r\nb'") ≡ Some 7
unfolding size_after quote_count unit_size
joined = refl

broken : size_after 0 (codes "'a\\\r\n\nb'") ≡ None
unfolding size_after quote_count unit_size
broken = refl

line_ends : (line_end (codes "\r\n") ≡ 2) × (line_end (codes "\ra") ≡ 1) × (line_end (codes "a\n") ≡ 0)
unfolding line_end
line_ends = (refl, refl, refl)

in_brackets : (reading 1 (codes "\r\nx") ≡ Piece None 2) × (reading 0 (codes "\r\nx") ≡ Piece (Some kind.LineEnd) 2)
unfolding reading blank joined_line new_line line_end
in_brackets = (refl, refl)

-- Letters are a prefix only if a quote directly follows them; otherwise they are a name.
names : (reading 0 (codes "rbx'a'") ≡ Piece (Some kind.Name) 3) × (reading 0 (codes "rb'a'") ≡ Piece (Some kind.Literal) 5)
unfolding reading blank joined_line new_line line_end comment literal prefix_size opens_after size_after quote_count unit_size name
names = (refl, refl)

numbers : (reading 0 (codes ".5e_x.1+") ≡ Piece (Some kind.Number) 7) × (reading 0 (codes "..5") ≡ Piece (Some kind.Op) 1)
unfolding reading blank joined_line new_line line_end comment literal prefix_size opens_after name number operator
numbers = (refl, refl)

strays : (reading 0 (codes "$") ≡ Stray) × (reading 0 (codes "\\ \n") ≡ Stray) × (reading 0 (codes "'a") ≡ Unterminated)
unfolding reading blank joined_line new_line line_end comment literal prefix_size opens_after size_after quote_count unit_size name number operator
strays = (refl, refl, refl)

-- A closing bracket doesn't lower the depth below 0.
depths : (depth_after 1 (codes "(") ≡ 2) × (depth_after 1 (codes "]") ≡ 0) × (depth_after 0 (codes "}") ≡ 0)
unfolding depth_after
depths = (refl, refl, refl)

-- The first `coding` with a name counts, in the first line, or in the second line after a bare one.
first_line : wrong_coding (codes "# coding: coding=utf-16 coding:utf8\n") ≡ Some 10
unfolding wrong_coding coding_of second_coding line_end is_bare coding_of_line named_here
first_line = refl

second_line : wrong_coding (codes " # x\r\n\t#coding=latin-1") ≡ Some 15
unfolding wrong_coding coding_of second_coding line_end is_bare coding_of_line named_here
second_line = refl

not_bare : wrong_coding (codes "x\n#coding=latin-1") ≡ None
unfolding wrong_coding coding_of second_coding line_end is_bare coding_of_line named_here
not_bare = refl

accepted : wrong_coding (codes "#coding=Utf-8-SIG;\n#coding=x") ≡ None
unfolding wrong_coding coding_of second_coding line_end is_bare coding_of_line named_here
accepted = refl
