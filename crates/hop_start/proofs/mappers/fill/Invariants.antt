use Rattle.std.proofs.Common.{◌≡◌, ◌≤◌, ◌++◌, length, map, vec_len, vec_capacity}
use Rattle.std.specs.List.{range_with_len}
use Rattle.hop_shelf.specs.Names.{rules_of}
use Rattle.hop_machine.specs.home.Starts.{new_mapper}
use Rattle.hop_mapper.specs.Mappers.{mapper_of}
use Rattle.hop_start.specs.Made.{folder_of, AreFresh}
use Rattle.hop_start.proofs.mappers.fill.Given as goal

abbrev pub invariant-loop-w : goal.invariant-loop-w
invariant-loop-w g l = record {
  folders : map folder_of l.mappers.items ++ l.folders.items ≡ l.initial.folders.items;
  count : length l.mappers.items ≡ l.w;
  mappers : map (mapper_of g.N.RunName.records g.N.RunName.script g.N.RunName.settings) l.mappers.items
      ≡ map (λ w. new_mapper w (rules_of g.N.RunName.records g.N.RunName.script g.N.RunName.settings) g.N.RunName.settings.backup g.N.RunName.settings.reducers) (range_with_len 0 l.w);
  fresh : AreFresh g.N.RunName.job g.N.RunName.records g.N.RunName.settings g.N.RunName.tells l.mappers.items;
  space : vec_len l.initial.folders ≤ vec_capacity l.mappers;
  room : vec_capacity l.initial.folders ≤ vec_capacity l.folders;
}
