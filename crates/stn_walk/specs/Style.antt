-- The style sheet of the picture of a conflict.
use Rattle.std.specs.Prelude.{ℕ, List, codes}

-- texts, paper and stripes, links with their dots and tips; darker ones in a dark scheme
abbrev pub walk_style : List ℕ
walk_style = codes "<style>svg{height:auto}text{font:12px system-ui,sans-serif;fill:#1b1f24}.s{font-size:11px;fill:#57606a}.n,.h{font:11px ui-monospace,monospace}.t{font:13px ui-monospace,monospace}.t,.h{font-weight:600}.e{text-anchor:end}.m{text-anchor:middle}.w{fill:#bc4c00}.j{font-size:11px;fill:#a0427c}.z{fill:#fff}.y{stroke:#f6f8fa;stroke-width:1000;stroke-dasharray:34}.g{stroke:#d8dee4}.o{stroke:#57606a;stroke-dasharray:2,3}.c{stroke:#d55e00;stroke-width:3}g path{stroke:#0072b2;stroke-width:3;marker:url(#d);marker-end:url(#u)}.x{fill:#0072b2}@media(prefers-color-scheme:dark){text{fill:#e6edf3}.s{fill:#9198a1}.w{fill:#f0883e}.j{fill:#e59ac6}.z{fill:#0d1117}.y{stroke:#151b23}.g{stroke:#30363d}.o{stroke:#9198a1}.c{stroke:#f0883e}g path{stroke:#4aa3df}.x{fill:#4aa3df}}</style><defs><marker id='d' refX='3' refY='3' markerWidth='6' markerHeight='6' markerUnits='userSpaceOnUse'><circle class='x' cx='3' cy='3' r='3'/></marker><marker id='u' refX='9' refY='5' markerWidth='9' markerHeight='10' markerUnits='userSpaceOnUse' orient='auto'><path class='x' d='M0 0l9 5l-9 5'/></marker></defs>\n"
