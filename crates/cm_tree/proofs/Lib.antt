mod TokenRows
