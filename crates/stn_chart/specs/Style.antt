-- The style sheets of a chart, with their patterns and tips.
use Rattle.std.specs.Prelude.{ℕ, List, codes}

-- text, paper and stripes, bars by their kinds, marks and arrows; darker ones in a dark scheme
abbrev pub style_text : List ℕ
style_text = codes "<style>svg{height:auto}text{font:12px system-ui,sans-serif;fill:#1b1f24}.s{font-size:11px;fill:#57606a}.n{font:11px ui-monospace,monospace}.t{font:600 13px ui-monospace,monospace}.e{text-anchor:end}.m{text-anchor:middle}.w{fill:#bc4c00}.z{fill:#fff}.y{stroke:#f6f8fa;stroke-width:1000;stroke-dasharray:24}.g{stroke:#d8dee4}.a,.f,.d,.r{stroke:#0072b2;stroke-width:12}.p,.l{stroke:#a3cbe6;stroke-width:6}.f{stroke:#24292f}.d{stroke:#8c959f}.r{stroke:url(#h)}.l,.c{stroke:#d55e00}.c{stroke-width:1.5}.k{stroke:#1b1f24;stroke-width:2}.v{stroke:#57606a;fill:none;marker-end:url(#t)}.i{fill:#57606a}.b{fill:#a3cbe6}.x{fill:#0072b2}.q{stop-color:#a3cbe6}@media(prefers-color-scheme:dark){text{fill:#e6edf3}.s{fill:#9198a1}.w{fill:#f0883e}.z{fill:#0d1117}.y{stroke:#151b23}.g{stroke:#30363d}.a{stroke:#4aa3df}.p{stroke:#1f4a68}.f,.k{stroke:#e6edf3}.d{stroke:#6e7681}.l,.c{stroke:#f0883e}.v{stroke:#9198a1}.i{fill:#9198a1}.b{fill:#1f4a68}.x{fill:#4aa3df}.q{stop-color:#1f4a68}}</style>\n"

-- the hatching of what runs, what fades, the tip of an arrow
abbrev pub parts_text : List ℕ
parts_text = codes "<defs><pattern id='h' width='6' height='6' patternUnits='userSpaceOnUse' patternTransform='rotate(45)'><path class='b' d='M0 0h6v6H0'/><path class='x' d='M0 0h3v6H0'/></pattern><linearGradient id='j'><stop class='q'/><stop class='q' offset='1' stop-opacity='0'/></linearGradient><marker id='t' refX='6' refY='3' markerWidth='6' markerHeight='6' markerUnits='userSpaceOnUse' orient='auto'><path class='i' d='M0 0l6 3l-6 3'/></marker></defs>\n"

-- a colour for the steps of a site; that of a number that 6 divides is as without sites
abbrev pub sites_style : List ℕ
sites_style = codes "<style>.o1{stroke:#009e73}.o2{stroke:#e69f00}.o3{stroke:#cc79a7}.o4{stroke:#56b4e9}.o5{stroke:#8a6d3b}</style>\n"
